pub mod Times
pub mod NoDust
pub mod Finite
pub mod LeastFavourable
pub mod OnlyFlat
