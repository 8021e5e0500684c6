pub mod FollowMoves
pub mod FollowTurns
pub mod FuseMoves
pub mod FuseTurns
pub mod Sound
