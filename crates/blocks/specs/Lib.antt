pub mod Reading
pub mod Blocks
pub mod Append
pub mod Reads
pub mod Stretch
pub mod Laws
pub mod StretchIsReading
