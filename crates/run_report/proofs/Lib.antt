pub mod WordLines
pub mod ReportRest
pub mod Fitting
