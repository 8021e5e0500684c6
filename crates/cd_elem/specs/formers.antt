-- How the owners of members store them, for the types that lead back to themselves.
pub mod boxed
pub mod items
