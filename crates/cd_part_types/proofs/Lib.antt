pub mod ChainTypes
pub mod Nodes
