pub mod Spaces
pub mod ColumnSpaces
pub mod Noting
pub mod Parting
pub mod Public
