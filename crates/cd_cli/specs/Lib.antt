pub mod Cause
pub mod Command
pub mod Judge
pub mod Report
pub mod Script
pub mod Streams
pub mod Arguments
pub mod ArgumentRows
