pub mod EventMap
pub mod Chains
pub mod Kept
pub mod Words
pub mod Laws
pub mod Maps
