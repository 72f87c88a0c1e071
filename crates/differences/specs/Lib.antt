pub mod Lines
pub mod Compared
pub mod Truth
pub mod Laws
