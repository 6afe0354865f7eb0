pub mod Heads
pub mod Merged
pub mod Pulled
pub mod Sharding
pub mod Turns
pub mod Work
