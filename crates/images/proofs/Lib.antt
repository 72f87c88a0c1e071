pub mod Reading
pub mod Testing
pub mod Answers
