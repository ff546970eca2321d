pub mod FlowText
pub mod Answer
pub mod Served
pub mod Laws
