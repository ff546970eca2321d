pub mod Forms
pub mod Orders
