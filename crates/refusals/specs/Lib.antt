pub mod Lines
pub mod Settings
pub mod Rooms
pub mod Bar
pub mod Lists
pub mod Judgement
pub mod Day
pub mod Laws
