-- ---- one recursion that gives the visits; what is read off it; and that it alone follows the jumps
pub mod Trace
pub mod Follows
