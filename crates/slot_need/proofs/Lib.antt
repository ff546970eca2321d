pub mod AcquireLists
pub mod ReservationFacts
pub mod FloodMarks
pub mod FloodSteps
pub mod HighFlood
pub mod NeedLaws
pub mod NeedSteps
mod PlainNeed
