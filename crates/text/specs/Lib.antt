pub mod Rooms
pub mod Spelling
pub mod Laws
