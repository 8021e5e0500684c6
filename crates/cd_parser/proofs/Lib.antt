pub mod Complete
pub mod Extensions
pub mod CanFinish
pub mod Fronts
pub mod OnlyChar
pub mod Rows
pub mod Sound
pub mod StateForms
