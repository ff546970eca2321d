pub mod Ended
pub mod Laws
pub mod Linked
pub mod Running
pub mod Session
pub mod Report
