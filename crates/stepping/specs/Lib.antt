pub mod Bars
pub mod WordRun
pub mod Day
