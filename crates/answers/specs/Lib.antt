pub mod Text
pub mod Lines
pub mod Examples
pub mod Laws
