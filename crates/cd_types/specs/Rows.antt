-- Worked rows, which hold by computation alone.
pub mod Bounds
pub mod Examples
pub mod Forms
pub mod Names
pub mod Numbering
pub mod Numbers
pub mod PartTypes
pub mod Rests
pub mod Results
pub mod Scripts
pub mod Trees
pub mod Words
