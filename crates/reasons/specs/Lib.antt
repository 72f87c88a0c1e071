-- ---- what a line may show, by what its condition means: the leaves that a test looks at, and what is true of a condition
pub mod Looks
pub mod Telling
-- ---- laws of the definitions
pub mod Laws
-- ---- THE THEOREMS: the lines are true, and nothing else is; no other chain is given; the first line gives the rule's answer
pub mod Truth
pub mod Chained
pub mod FirstLine
