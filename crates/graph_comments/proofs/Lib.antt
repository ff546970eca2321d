pub mod ExampleTexts
pub mod KeptLines
pub mod Newlines
pub mod Numbered
pub mod Passing
pub mod Public
pub mod Steps
