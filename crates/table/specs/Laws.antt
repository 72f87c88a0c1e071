-- ---- each definition by itself
pub mod Header
pub mod Kinds
pub mod Forest
pub mod Ends
pub mod Order
-- ---- an accepted table
pub mod Accepted
-- ---- the nodes of the tests that fall silent
pub mod Silent
