pub mod Counting
pub mod Laws
pub mod Planes
pub mod Shares
