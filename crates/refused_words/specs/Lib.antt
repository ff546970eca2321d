pub mod Places
pub mod Meets
pub mod Refused
pub mod Uses
pub mod Repeats
pub mod Ends
pub mod Limits
pub mod Laws
