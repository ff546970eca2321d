pub mod Bits
pub mod Noted
pub mod Placed
pub mod Held
pub mod BlockRules
pub mod Laws
