-- Rows of the grammar of scripts that stand on lemmas: the tokens of whole texts, and what is refused.
pub mod Deciding
pub mod Lexemes
pub mod ManyTokens
pub mod Refusals
