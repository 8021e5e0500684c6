-- Modules of cases, written by tools/type_cases.py.
pub mod Types1
pub mod Types2
pub mod Types3
pub mod Types4
