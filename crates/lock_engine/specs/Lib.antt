pub mod Turns
pub mod Rule
pub mod Plays
pub mod Seats
