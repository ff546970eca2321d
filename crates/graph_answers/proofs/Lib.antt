pub mod RefusedLines
pub mod Delivering
pub mod AuditAnswers
pub mod UpgradeAnswers
pub mod SummaryLines
pub mod RunFacts
pub mod UnlawfulLines
pub mod Timelines
