pub mod Tasks
pub mod Sources
pub mod Sequence
pub mod Run
pub mod History
pub mod Laws
