pub mod Races
pub mod Summaries
pub mod Laws
pub mod Topmost
pub mod Fresh
pub mod Last
