mod Cases
mod Digests
mod Edits
mod Forms
mod Readings
mod Shown
mod Walks
