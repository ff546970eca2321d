pub mod FirstFault
pub mod Laws
pub mod Reading
pub mod Kinds
pub mod Merges
pub mod Calls
