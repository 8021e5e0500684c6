pub mod NextLexeme
pub mod Quotes
pub mod LongestToken
