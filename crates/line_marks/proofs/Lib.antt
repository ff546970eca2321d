pub mod MarkFacts
pub mod Public
