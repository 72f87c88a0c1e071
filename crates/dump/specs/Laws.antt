pub mod Laid
pub mod WordBytes
pub mod InOrder
pub mod Image
pub mod Placed
pub mod WordsFit
pub mod Parts
