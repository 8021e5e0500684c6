pub mod Carried
pub mod LiteralStages
pub mod Literals
pub mod Spelling
pub mod Stages
pub mod Values
