pub mod Kept
pub mod Ready
pub mod Stored
