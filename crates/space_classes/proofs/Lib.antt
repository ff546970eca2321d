pub mod Sweeping
pub mod Spanning
pub mod Choosing
pub mod Unions
