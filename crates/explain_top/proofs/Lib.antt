pub mod EdgeFacts
pub mod Endings
pub mod Marking
mod Carried
mod MissingFacts
pub mod Telling
mod FieldFacts
mod ColumnFacts
pub mod FlowFacts
