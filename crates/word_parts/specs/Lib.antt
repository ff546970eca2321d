pub mod Emptying
pub mod Reading
pub mod Preparing
pub mod ClosingRoom
pub mod Beginning
pub mod Leaving
