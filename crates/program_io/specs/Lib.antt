pub mod Delivered
pub mod Laws
