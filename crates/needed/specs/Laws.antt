-- ---- the tests that fall silent
pub mod Silent
