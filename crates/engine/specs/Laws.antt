pub mod Lengths
pub mod Refusal
pub mod Verdict
pub mod Runs
pub mod Underway
pub mod InPlace
pub mod Days
