pub mod Passes
pub mod Realized
