use Rattle.std.proofs.Common.{◌≡◌, ◌++◌, List, drop, length}
use Rattle.std.specs.Vec.Iter.{into_iter_items}
use Rattle.mg_shard.specs.Shard.{ShardView, shards_view}
use Rattle.mg_engine.specs.StateView.{AllFinishAs, before}
use Rattle.mg_engine.proofs.bulk.apply.finish_drafts.Given as goal

-- the shards so far, followed by what the rest of the drafts leave, are what all drafts leave
abbrev pub invariant-loop-draft : goal.invariant-loop-draft
invariant-loop-draft l = record {
  can_next : (goal.iterator-loop-draft).can_next l.draft-iterator;
  is_finite : (goal.iterator-loop-draft).is_finite l.draft-iterator;
  shards : before (into_iter_items l.draft-iterator) ≡ shards_view (drop (length l.next_shards.items) l.shards);
  goes_on : (rest : List ShardView) → AllFinishAs (into_iter_items l.draft-iterator) rest → AllFinishAs l.fn.drafts.items (shards_view l.next_shards.items ++ rest);
}
