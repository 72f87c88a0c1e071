pub mod Stream
pub mod Own
pub mod Profile
