pub mod Cut
pub mod Joined
pub mod Pieces
pub mod Laws
