-- What the proofs of the functions use.
pub mod Pieces
pub mod Writing
pub mod Whole
