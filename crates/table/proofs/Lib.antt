-- What the proofs of several functions use.
pub mod Past
pub mod Prefix
pub mod Linked
pub mod Weigh
pub mod Four
pub mod Final
pub mod Listing
