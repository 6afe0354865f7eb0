use Rattle.std.proofs.Common.{◌≡◌, ◌<◌, ◌++◌, length, map}
use Rattle.std.specs.Vec.Iter.{into_iter_items}
use Rattle.mg_shard.specs.Dealt.{DraftsStandFor}
use Rattle.mg_shard.specs.Edits.{after_edits, id_in, outcomes}
use Rattle.mg_shard.specs.Histories.{Histories}
use Rattle.mg_engine.specs.Outcomes.{reply_in, id_view}
use Rattle.mg_engine.specs.StateView.{before}
use Rattle.mg_engine.proofs.bulk.apply.edit_all.Given as goal

-- the outcomes so far, followed by those of the rest from the histories that the drafts stand for now, are the outcomes of all edits
abbrev pub invariant-loop-edit : goal.invariant-loop-edit
invariant-loop-edit g l = record {
  can_next : (goal.iterator-loop-edit g).can_next l.edit-iterator;
  is_finite : (goal.iterator-loop-edit g).is_finite l.edit-iterator;
  some : 0 < length l.drafts;
  ids : map id_in l.fn.edits.items ≡ map id_view l.outcomes.items ++ map id_in (into_iter_items l.edit-iterator);
  before : before l.drafts ≡ before l.fn.drafts;
  goes_on : (hs : Histories) → DraftsStandFor (g.P.Placement.place l.placement) l.fn.drafts hs
      → (now : Histories) × DraftsStandFor (g.P.Placement.place l.placement) l.drafts now
      × (after_edits hs l.fn.edits.items ≡ after_edits now (into_iter_items l.edit-iterator))
      × (outcomes hs l.fn.edits.items ≡ map reply_in l.outcomes.items ++ outcomes now (into_iter_items l.edit-iterator));
}
