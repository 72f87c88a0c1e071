pub mod Neighbours
pub mod Walks
pub mod Passes
