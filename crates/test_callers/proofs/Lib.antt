pub mod ByteTrees
pub mod LeafRooms
pub mod LeafSteps
pub mod OpenMarks
pub mod TreeSteps
