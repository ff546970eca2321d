pub mod PathRows
pub mod Sorting
pub mod OrderLoops
pub mod Searching
pub mod Numbering
pub mod EdgeLoops
pub mod Ranking
