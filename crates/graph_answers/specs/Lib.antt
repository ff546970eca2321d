pub mod Texts
pub mod Status
pub mod Delivered
pub mod Refused
pub mod AuditAnswer
pub mod UpgradeAnswer
pub mod Answer
