pub mod Bodies
pub mod Endings
pub mod Moves
