mod Counts
mod Places
pub mod Public
