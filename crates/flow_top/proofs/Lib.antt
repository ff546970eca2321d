pub mod FlowLines
pub mod Readings
pub mod WordForms
pub mod Public
