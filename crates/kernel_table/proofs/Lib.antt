pub mod Picks
pub mod Runs
pub mod Windows
pub mod Sums
pub mod Counts
pub mod Seen
pub mod Fitting
pub mod Changes
