-- ---- definitions, in document 01's order
pub mod Bytes
pub mod Named
pub mod Kinds
pub mod Header
pub mod Nodes
pub mod Order
pub mod Forest
pub mod Nesting
pub mod Trees
pub mod Series
pub mod Reach
pub mod Outcome
pub mod Checked
pub mod Ends
pub mod Reading
pub mod Depth
pub mod Writing
pub mod Limits
pub mod Silent
-- ---- what the passes of the check promise each other
pub mod Passes
-- ---- laws of the definitions
pub mod Laws
