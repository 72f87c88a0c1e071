-- ---- the steps of a tree answer what it means
pub mod Ago
pub mod Compiled
-- ---- the list of no steps
pub mod Empty
-- ---- the classes of steps
pub mod Classes
-- ---- steps as bytes; what is translated has right fields, and what is written of such steps is well formed
pub mod Encoding
pub mod TranslatedSteps
pub mod WrittenSteps
