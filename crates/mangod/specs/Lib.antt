pub mod Arguments
pub mod Exits
pub mod Program
pub mod View
