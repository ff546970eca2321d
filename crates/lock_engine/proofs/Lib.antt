pub mod TurnFacts
pub mod RuleFacts
pub mod SeatFacts
