pub mod Causes
pub mod Explanation
pub mod Ways
