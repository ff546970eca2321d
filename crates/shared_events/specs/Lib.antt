pub mod Rule
pub mod Plays
pub mod Laws
pub mod Seats
pub mod Views
