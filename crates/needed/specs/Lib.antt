pub mod Outcome
pub mod Depth
-- ---- THE THEOREMS: the nodes that are listed are the silent tests; over enough rows there are none
pub mod Laws
