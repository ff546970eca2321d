pub mod Laden
pub mod Gathering
pub mod Taking
pub mod Refusals
pub mod Performing
pub mod Laws
