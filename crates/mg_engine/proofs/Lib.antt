pub mod Executions
mod Collecting
pub mod Counter
mod Editing
mod Indexes
mod Numbers
mod Reading
mod Resharding
mod Pages
mod Preparing
pub mod Objects
mod Entries
mod Spelled
mod Carried
mod Spelling
pub mod Counting
pub mod Ranging
mod RowTexts
