pub mod Leaves
pub mod Newest
pub mod Showing
pub mod Going
pub mod Walking
pub mod Explaining
