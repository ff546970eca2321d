pub mod Enough
pub mod Marks
pub mod Members
pub mod Reach
pub mod Scan
pub mod ScanState
