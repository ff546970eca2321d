pub mod Lendings
pub mod Shown
pub mod Left
pub mod Moved
