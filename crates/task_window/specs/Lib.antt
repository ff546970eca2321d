pub mod Chains
pub mod Waits
pub mod Pieces
pub mod Window
pub mod Laws
