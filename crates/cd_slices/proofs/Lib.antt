pub mod Cuts
pub mod Sifting
pub mod SliceReads
pub mod StageLaws
pub mod Words
