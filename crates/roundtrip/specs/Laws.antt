-- ---- each definition of `table` by itself
pub mod Reading
pub mod Series
pub mod Reach
pub mod OwnBytes
pub mod Writing
pub mod NodeBytes
pub mod Limits
-- ---- how to walk an accepted table
pub mod Walking
-- ---- from an accepted table to its rule: it is the table of that rule, which is within the limits
pub mod AcceptedWritten
pub mod AcceptedWithin
-- ---- from a rule to its table: its forest, which keeps the rules of a table; the table is accepted, and is a byte string
pub mod WrittenForest
pub mod WrittenForestKept
pub mod WrittenForestRead
pub mod WrittenNodes
pub mod WrittenGrows
pub mod WrittenTrees
pub mod WrittenAccepted
pub mod WrittenBytes
