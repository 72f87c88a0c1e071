pub mod Words
pub mod Grown
pub mod Groups
pub mod Judged
