pub mod Number
pub mod Request
pub mod Faults
