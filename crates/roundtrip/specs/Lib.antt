-- ---- laws of the definitions of `table`
pub mod Laws
-- ---- THE THEOREMS: tables and rules are the same thing; the worked example
pub mod RoundTrip
pub mod Versions
pub mod Example
