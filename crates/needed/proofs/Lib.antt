-- What the proof of `depth` uses.
pub mod Needed
