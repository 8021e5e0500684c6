pub mod CutChunks
pub mod Flows
pub mod Parts
pub mod Reading
pub mod Sites
