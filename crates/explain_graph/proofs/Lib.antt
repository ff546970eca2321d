pub mod FarthestFacts
pub mod RefusalFacts
pub mod CauseFacts
pub mod NamedItems
