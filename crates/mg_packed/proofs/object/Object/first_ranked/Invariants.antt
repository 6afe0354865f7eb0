use Rattle.std.proofs.Common.{ℕ, ◌-◌, ◌≤◌, ◌<◌, length}
use Rattle.mg_value.specs.Value.{member_list}
use Rattle.mg_value.specs.Stored.{MembersAreStored}
use Rattle.mg_packed.specs.Ranks.{rank_of}
use Rattle.mg_packed.specs.Read.{nth_name}
use Rattle.mg_packed.proofs.object.Object.first_ranked.Given as goal

abbrev pub invariant-loop-first : goal.invariant-loop-first
invariant-loop-first l =
    record {
      stored : MembersAreStored l.self;
      ordered : l.first ≤ l.end;
      within : l.end ≤ length (member_list l.self);
      below : (k : ℕ) → k < l.first → rank_of (nth_name l.self k) < l.limit;
      above : (k : ℕ) → l.end ≤ k → k < length (member_list l.self) → l.limit ≤ rank_of (nth_name l.self k);
    }

abbrev pub decreases-loop-first : goal.decreases-loop-first
decreases-loop-first l = l.end - l.first
