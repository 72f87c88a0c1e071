pub mod Places
pub mod Residues
pub mod Sums
pub mod Trades
pub mod Counts
pub mod Bound
