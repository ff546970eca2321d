pub mod Parts
pub mod Accessed
pub mod Column
pub mod Laws
