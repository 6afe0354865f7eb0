mod ClosingLemmas
mod EntryLemmas
mod GivingBackLemmas
mod KnownBytesLemmas
mod PlaceLemmas
mod TableLemmas
mod VisitLemmas
