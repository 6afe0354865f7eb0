mod Crossing
mod Faces
mod Readiness
mod Rows
mod Seats
