pub mod Reading
pub mod Parts
pub mod Lawful
pub mod Prefix
pub mod Laws
pub mod Text
