pub mod Beginnings
mod Events
mod Commits
mod Points
mod Replies
mod Sessions
