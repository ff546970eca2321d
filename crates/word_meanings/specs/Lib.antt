pub mod Words
pub mod WordFaults
pub mod Lookups
pub mod Telling
pub mod Names
pub mod Places
pub mod Laws
pub mod Recent
