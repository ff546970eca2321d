pub mod ListFacts
pub mod DigitLoop
pub mod Sums
pub mod TestedLists
pub mod ListParts
pub mod Choices
