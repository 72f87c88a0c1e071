-- ---- THE THEOREMS: where a level is filled; a size that is not a number; whole lots; the Rust's entry
pub mod Level
pub mod NotANumber
pub mod Ordered
pub mod InLots
pub mod Rust
