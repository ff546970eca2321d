pub mod Counts
pub mod Told
pub mod Limit
pub mod Memory
pub mod TextSinks
pub mod SinkState
pub mod Written
pub mod Laws
