pub mod Cutting
pub mod EndSteps
pub mod Further
pub mod Lists
pub mod Openings
pub mod Readings
pub mod TableSteps
