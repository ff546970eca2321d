pub mod Merged
pub mod InOrder
