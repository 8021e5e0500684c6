pub mod CutReads
pub mod CutterLaws
pub mod JoinerLaws
pub mod Searches
pub mod SplitScans
pub mod StageLaws
