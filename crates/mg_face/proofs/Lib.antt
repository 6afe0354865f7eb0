pub mod Crossing
mod NumberLemmas
mod ValueLemmas
pub mod JsonLemmas
pub mod SeatLemmas
pub mod SegmentLemmas
pub mod EntryLemmas
pub mod BulkLemmas
mod RevisionLemmas
pub mod LineLemmas
pub mod CountLemmas
pub mod ItemLemmas
