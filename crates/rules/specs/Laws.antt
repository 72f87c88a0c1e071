pub mod Missing
pub mod Meaning
pub mod FlatReading
pub mod Answers
