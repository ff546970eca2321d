pub mod Orders
pub mod Refused
