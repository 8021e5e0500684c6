pub mod Follows
pub mod Fuses
pub mod PartSites
pub mod Rows
