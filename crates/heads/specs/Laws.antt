pub mod Packed
pub mod Plain
