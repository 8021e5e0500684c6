pub mod Cause
pub mod CauseText
pub mod CheckText
pub mod Rows
pub mod ValueText
