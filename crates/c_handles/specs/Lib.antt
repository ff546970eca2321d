pub mod Moving
pub mod Ownership
