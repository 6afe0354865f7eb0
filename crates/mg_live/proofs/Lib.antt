mod Prefixes
mod Adding
mod Publishing
mod Keeping
pub mod Crossing
