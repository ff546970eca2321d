pub mod High
pub mod Sweep
pub mod NeedLine
