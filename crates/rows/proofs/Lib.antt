pub mod Places
pub mod Turning
