pub mod Heads
pub mod Rows
pub mod Words
pub mod Looks
pub mod Said
pub mod Coming
pub mod Forms
pub mod Going
