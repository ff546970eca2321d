pub mod WaitingFacts
pub mod CellFacts
pub mod PerformFacts
pub mod StateFacts
pub mod PhaseFacts
pub mod OrderFacts
