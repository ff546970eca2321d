pub mod Owned
pub mod Naming
pub mod Numbers
pub mod Items
pub mod Instances
pub mod Placing
pub mod InPieces
