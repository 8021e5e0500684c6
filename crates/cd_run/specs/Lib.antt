pub mod Ends
pub mod Gathers
pub mod Going
pub mod Paused
pub mod Ran
pub mod Runners
pub mod Scripts
pub mod Statements
