pub mod CommandFacts
pub mod RequestFacts
