pub mod Flat
mod Turns
pub mod Ties
pub mod Sorting
pub mod Directed
mod CodePoints
