pub mod Chains
pub mod Forms
pub mod Outputs
pub mod Results
pub mod Sequences
pub mod Types
