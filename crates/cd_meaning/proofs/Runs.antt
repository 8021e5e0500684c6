-- Each formula of a word and of a form is a run that a scan or a weave makes.
pub mod Bases
pub mod ByteRows
pub mod Elements
pub mod Keeps
pub mod Pieces
pub mod PlainSplitters
pub mod PlainText
pub mod Results
pub mod Scans
pub mod SequenceGroups
pub mod Sequences
pub mod Shapes
pub mod Sources
pub mod Splitters
pub mod Texts
