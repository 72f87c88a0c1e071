pub mod Writes
pub mod Operands
pub mod Conditions
pub mod Links
pub mod Fitting
