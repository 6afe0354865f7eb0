pub mod Bookmark
pub mod Letters
pub mod Reading
pub mod View
pub mod Decoding
