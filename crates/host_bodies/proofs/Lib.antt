pub mod Cells
pub mod Apart
pub mod Comes
pub mod Runs
pub mod Ending
pub mod Public
