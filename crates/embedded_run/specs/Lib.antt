pub mod SumGraph
pub mod Failures
