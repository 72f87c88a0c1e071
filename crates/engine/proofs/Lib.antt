pub mod Rows
pub mod Placing
pub mod Dues
pub mod OneBar
pub mod Days
