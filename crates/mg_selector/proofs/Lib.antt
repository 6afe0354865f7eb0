mod Arms
mod Elements
mod Faults
