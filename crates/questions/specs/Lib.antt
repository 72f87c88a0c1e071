-- ---- definitions: the position of a question in words, and the questions of one call
pub mod Position
pub mod Over
-- ---- laws of the definitions
pub mod Laws
