pub mod ShareFields
pub mod LendingSteps
