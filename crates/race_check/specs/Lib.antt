pub mod Refusal
pub mod Blocks
pub mod Inside
pub mod Topmost
