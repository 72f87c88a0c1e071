pub mod Known
pub mod Right
pub mod Places
pub mod Fine
pub mod Upto
