pub mod Machine
pub mod Laws
pub mod View
pub mod Points
pub mod Seats
