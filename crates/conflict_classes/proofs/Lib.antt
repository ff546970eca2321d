pub mod AccessSteps
pub mod Settled
pub mod Classing
pub mod Guarding
pub mod Nearness
pub mod Public
