pub mod Answered
pub mod SessionAnswers
pub mod MadeRequests
pub mod Serving
pub mod Requests
pub mod Ending
pub mod InPieces
