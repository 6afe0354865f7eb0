use Rattle.std.proofs.Common.{◌≡◌, ◌++◌, drop, map}
use Rattle.mg_shard.specs.Draft.{DraftStandsFor}
use Rattle.mg_shard.specs.Edits.{after_edits, outcome_view, outcomes}
use Rattle.mg_shard.specs.Histories.{Histories}
use Rattle.mg_shard.proofs.draft.Draft.apply_all.Given as goal

-- the edits that are left, from the histories for which the draft stands now, give the rest of the result
abbrev pub invariant-loop-edit : goal.invariant-loop-edit
invariant-loop-edit l = record {
  shard : l.self.shard ≡ l.fn.self.shard;
  goes_on : (hs : Histories) → DraftStandsFor l.fn.self hs
      → (now : Histories) × DraftStandsFor l.self now
      × (after_edits hs l.edits ≡ after_edits now (drop l.edit-index l.edits))
      × (outcomes hs l.edits ≡ map outcome_view l.replies.items ++ outcomes now (drop l.edit-index l.edits));
}
