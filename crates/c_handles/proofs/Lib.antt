mod AsBox
mod Moving
pub mod Public
