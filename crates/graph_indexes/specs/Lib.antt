pub mod Names
pub mod Counts
pub mod Tables
pub mod Rows
pub mod Repeats
