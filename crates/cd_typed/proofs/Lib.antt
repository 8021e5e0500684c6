pub mod KnownNames
pub mod Positions
pub mod Texts
