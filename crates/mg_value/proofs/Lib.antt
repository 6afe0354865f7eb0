pub mod Views
pub mod Lookup
pub mod Items
mod Whole
mod Texts
pub mod Written
pub mod Trees
pub mod Compact
pub mod Names
pub mod Weights
