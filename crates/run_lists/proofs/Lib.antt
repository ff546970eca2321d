pub mod MarkFacts
pub mod SourceFacts
pub mod ListsOfLines
pub mod PhaseFacts
pub mod HolderFacts
pub mod TakerFacts
pub mod HandleFacts
pub mod Public
