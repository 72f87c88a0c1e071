pub mod Layout
pub mod Reading
pub mod Refused
pub mod Restoring
pub mod Laws
