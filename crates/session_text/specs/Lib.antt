pub mod Session
pub mod Fits
pub mod FirstFault
pub mod SoFar
pub mod Laws
