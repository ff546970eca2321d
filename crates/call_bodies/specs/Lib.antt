pub mod Bodies
pub mod Driving
