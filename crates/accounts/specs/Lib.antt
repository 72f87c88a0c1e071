pub mod Stream
pub mod Profile
pub mod Own
pub mod Status
pub mod Laws
