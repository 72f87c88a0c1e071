pub mod Number
pub mod Exact
pub mod Trades
pub mod Totals
pub mod Ways
pub mod Laws
pub mod ExactTotals
pub mod Examples
