pub mod Part
pub mod Equal
