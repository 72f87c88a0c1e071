pub mod RowEnds
pub mod Turned
pub mod Ring
pub mod Added
