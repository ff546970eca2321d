pub mod Parts
pub mod Near
pub mod Along
