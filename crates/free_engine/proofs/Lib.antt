pub mod HintSteps
pub mod RoundSteps
