pub mod Held
pub mod RuleFacts
pub mod BeyondLines
pub mod RuleSteps
pub mod Doubting
pub mod Placing
pub mod Insides
pub mod KeepSteps
