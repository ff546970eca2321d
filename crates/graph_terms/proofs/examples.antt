pub mod Graphs
pub mod Fits
pub mod Faults
