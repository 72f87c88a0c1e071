-- ---- definitions: what a rule means, and how it is read off a flat table
pub mod Values
pub mod Meaning
pub mod Shapes
pub mod Flat
pub mod Answers
-- ---- laws of the definitions
pub mod Laws
-- ---- THE THEOREMS: the starred cases, and the window
pub mod Edges
pub mod Window
pub mod WindowAnswers
pub mod Shortage
pub mod Silence
pub mod AnyWindow
