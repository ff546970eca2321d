pub mod AskedHandles
pub mod Graphs
pub mod Growing
pub mod SameParts
