pub mod Paths
pub mod Reaches
pub mod Search
pub mod Shared
pub mod Meetings
