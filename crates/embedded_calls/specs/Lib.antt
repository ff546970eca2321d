pub mod CallGraph
pub mod Accounts
pub mod Readings
