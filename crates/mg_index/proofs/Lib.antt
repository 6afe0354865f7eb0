pub mod Bounds
pub mod Catalogs
pub mod Fields
pub mod Paths
pub mod Best
mod Faults
