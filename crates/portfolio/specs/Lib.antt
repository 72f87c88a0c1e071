pub mod Trade
pub mod Portfolio
