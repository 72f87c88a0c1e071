pub mod Stepping
pub mod Days
