pub mod Fine
pub mod RowWords
