pub mod WordLaws
pub mod WordFacts
pub mod GraphNames
pub mod Owners
pub mod Places
pub mod ColumnWords
pub mod SeenWords
pub mod KnownWords
mod NumberedNames
pub mod PartLists
pub mod Public
