pub mod Order
pub mod Dumping
pub mod Parts
pub mod Laws
