pub mod Built
pub mod BuiltNodes
pub mod Builds
