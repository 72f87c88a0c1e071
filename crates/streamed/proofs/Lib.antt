pub mod Riding
pub mod Accounting
