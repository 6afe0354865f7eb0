pub mod Order
pub mod Compared
pub mod Direction
pub mod Row
pub mod Sorted
