pub mod Cores
pub mod Hosts
pub mod Driven
pub mod Ended
