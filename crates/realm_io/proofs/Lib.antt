pub mod ToldFacts
pub mod WrittenLaws
pub mod LimitFacts
pub mod Public
