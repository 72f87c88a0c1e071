pub mod Order
pub mod Joining
pub mod Earliest
pub mod Reads
pub mod Stretch
pub mod Append
pub mod Kept
