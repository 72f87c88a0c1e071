-- ---- the step and the machine
pub mod Bytes
pub mod Machine
pub mod Places
pub mod Looks
pub mod WellFormed
pub mod Running
-- ---- the translation
pub mod Translation
pub mod Translating
-- ---- beside a run
pub mod Choice
-- ---- laws of the definitions
pub mod Laws
-- ---- THE THEOREMS: the worked example, the room and the visits; the window of a translated tree, and of any list; D is the least
pub mod Example
pub mod ManyValues
pub mod Room
pub mod Visits
pub mod Window
pub mod AnyList
pub mod Smallest
-- ---- DEMAND 3, and what a window that is too short does
pub mod Demand
pub mod Short
