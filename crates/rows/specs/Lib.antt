pub mod History
pub mod Room
pub mod Ring
pub mod Laws
