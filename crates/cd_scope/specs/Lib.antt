pub mod Calls
pub mod Cuts
pub mod Due
pub mod Journal
pub mod Rows
pub mod State
pub mod Table
pub mod Uses
