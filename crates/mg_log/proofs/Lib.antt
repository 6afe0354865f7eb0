pub mod Numbered
pub mod Statements
pub mod Transaction
pub mod Making
pub mod Reading
pub mod Unique
pub mod Opening
