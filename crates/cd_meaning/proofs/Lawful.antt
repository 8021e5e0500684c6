-- Words, forms, trees and scripts keep the laws.
pub mod Forms
pub mod Scripts
pub mod Trees
pub mod Words
