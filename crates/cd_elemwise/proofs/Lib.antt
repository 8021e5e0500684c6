mod InPlace
mod Repeats
pub mod PlanLaws
pub mod StageLaws
pub mod WordReads
pub mod WordScans
