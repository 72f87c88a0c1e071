pub mod Shapes
pub mod Steps
pub mod Spaced
pub mod Numbered
pub mod Lines
pub mod Short
