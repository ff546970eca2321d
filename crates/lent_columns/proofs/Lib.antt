pub mod ShownFacts
pub mod LineFacts
