pub mod Given
pub mod Leaves
pub mod Placed
pub mod Trees
