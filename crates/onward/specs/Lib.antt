pub mod GoesOn
pub mod Proved
