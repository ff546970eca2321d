pub mod FourTasks
pub mod InsertedWhileRunning
pub mod UndeclaredRead
