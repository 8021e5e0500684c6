pub mod Plans
pub mod Stages
pub mod Tables
pub mod Carried
