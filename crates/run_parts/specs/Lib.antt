pub mod LineEvents
pub mod Shown
pub mod Room
