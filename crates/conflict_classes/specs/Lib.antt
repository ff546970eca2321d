pub mod Clash
pub mod Settled
pub mod Classes
pub mod Guards
pub mod Spots
pub mod Table
pub mod Laws
