pub mod Uncut
pub mod Over
pub mod Numbered
pub mod Naming
pub mod Items
