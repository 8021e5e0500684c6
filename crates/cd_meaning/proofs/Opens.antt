pub mod Counts
pub mod Few
pub mod FormSpends
pub mod Forms
pub mod Scripts
pub mod Spends
pub mod Trees
pub mod WordSpends
