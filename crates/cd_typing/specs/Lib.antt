pub mod Checking
pub mod Lowest
pub mod Members
pub mod PartForms
pub mod Spots
pub mod StatementWalk
pub mod Walking
