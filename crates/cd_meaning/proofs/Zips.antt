-- Zips: their runs and their moves.
pub mod EndedMoves
pub mod Moves
pub mod Plain
pub mod Runs
pub mod SinkMoves
pub mod SourceMoves
