pub mod Fields
pub mod Settings
pub mod State
pub mod StateWords
pub mod Bar
pub mod Lent
pub mod Laws
