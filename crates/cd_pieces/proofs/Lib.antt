mod Ahead
pub mod LiteralChunks
pub mod LiteralLaws
pub mod StageLaws
pub mod WordLaws
pub mod WordScans
