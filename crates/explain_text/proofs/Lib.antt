mod VisibleFacts
pub mod TextFacts
mod WordPlaces
mod WordParts
pub mod EdgeTexts
mod Pieces
pub mod AcceptedFacts
mod LineLaws
mod CommentFacts
mod FrontFacts
pub mod Public
