pub mod View
pub mod Snapshots
pub mod Code
pub mod SeatView
pub mod Rules
pub mod Adding
pub mod Published
pub mod Keeping
