pub mod Chains
pub mod Slicing
pub mod Stages
