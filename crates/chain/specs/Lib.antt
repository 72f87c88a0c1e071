-- ---- definitions: the chain on trees, its lines as words, the call, and the chain as the code finds it
pub mod Missing
pub mod Chain
pub mod Lines
pub mod Explained
pub mod Flat
-- ---- laws of the definitions
pub mod Laws
-- ---- THE THEOREM of the window; what the lines say, and that there are no others, is proved above, in `reasons`
pub mod Window
