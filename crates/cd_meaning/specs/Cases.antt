-- Modules of cases, written by tools/cases.py.
pub mod Known
pub mod Scripts1
pub mod Scripts2
pub mod Scripts3
pub mod Scripts4
pub mod Scripts5
pub mod Words1
pub mod Words2
