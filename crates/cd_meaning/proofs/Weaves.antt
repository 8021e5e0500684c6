-- The weave of two runs, and the laws of fusion.
pub mod Finish
pub mod Grouped
pub mod Inputs
pub mod Laws
pub mod Plain
pub mod Steps
pub mod Through
