pub mod Stages
pub mod Events
pub mod Sources
pub mod Columns
pub mod Phases
pub mod Holders
pub mod Laws
