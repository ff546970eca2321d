pub mod Waiting
pub mod State
pub mod Phases
