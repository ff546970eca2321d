pub mod Totals
pub mod Steps
pub mod Rights
pub mod PartSteps
pub mod Gather
pub mod Opened
pub mod Closed
pub mod Used
