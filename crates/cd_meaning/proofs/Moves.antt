-- What each move of a suspended part leaves of its run.
pub mod Feeds
pub mod Fresh
pub mod Fused
pub mod Keeps
pub mod Laws
pub mod Marks
pub mod Own
pub mod Pending
pub mod Plain
pub mod Results
pub mod Returns
pub mod Scans
pub mod Sequences
pub mod Work
