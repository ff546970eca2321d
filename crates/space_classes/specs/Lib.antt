pub mod Classes
pub mod Spans
pub mod Sweep
pub mod Points
