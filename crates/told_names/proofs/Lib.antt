mod NamedFacts
mod LineCuts
mod NameSearch
mod PlaceFacts
pub mod Public
