pub mod SessionTexts
pub mod SessionAnswer
pub mod Answer
pub mod Laws
