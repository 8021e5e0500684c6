-- Runs that go on where sites give further bytes.
pub mod Forms
pub mod Fused
pub mod Laws
pub mod Zips
