-- ---- THE THEOREMS: what Highest and Lowest answer, where they are missing, worked cases, one row less; a table of version 1 holds none
pub mod Best
pub mod Missing
pub mod Examples
pub mod Smallest
pub mod FirstVersion
