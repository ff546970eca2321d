pub mod Fields
pub mod Columns
pub mod Answer
pub mod Flows
pub mod Program
pub mod Missing
