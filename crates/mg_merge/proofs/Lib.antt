pub mod Cuts
mod Fronts
pub mod Heads
mod Orders
mod Pulls
pub mod Rows
pub mod Shards
