mod AppliedSteps
mod RuleFacts
