pub mod BeyondLines
pub mod Columns
pub mod RaceSteps
pub mod Freeing
pub mod ExemptSummary
pub mod Asking
pub mod Public
pub mod AccessLists
mod Chains
mod FreshLines
mod LastLines
