pub mod Paths
pub mod Order
pub mod Search
pub mod Ranks
