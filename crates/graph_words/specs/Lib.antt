pub mod Text
pub mod Limits
pub mod Words
pub mod Cuts
pub mod Calls
pub mod Draft
pub mod Laws
pub mod Known
