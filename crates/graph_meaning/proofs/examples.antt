pub mod Accepted
pub mod Rules
pub mod Runs
pub mod Order
pub mod AnyEffects
