pub mod Fine
pub mod Passing
