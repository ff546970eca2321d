pub mod RefusedFacts
pub mod LimitFacts
mod RepeatFacts
mod UseFacts
mod PlaceFacts
mod FormFacts
mod ReasonFacts
mod CallFacts
mod MeetFacts
mod WordFacts
mod StandingFacts
mod QuantityFacts
