mod Spellings
mod Readings
mod Unspelled
mod Carried
pub mod Alphabet
