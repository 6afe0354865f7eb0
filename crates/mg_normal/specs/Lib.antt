pub mod Atoms
pub mod Code
pub mod Condition
pub mod Laws
pub mod Normal
pub mod Says
pub mod View
