pub mod Moved
pub mod Passing
pub mod Homes
pub mod Laws
