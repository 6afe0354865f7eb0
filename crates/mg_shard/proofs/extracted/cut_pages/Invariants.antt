use Rattle.std.proofs.Common.{◌≡◌, ◌≤◌, ◌-◌, length, take}
use Rattle.mg_pages.specs.Runs.{elements_view}
use Rattle.mg_shard.proofs.extracted.cut_pages.Given as goal

-- the pieces so far have the pages so far
abbrev pub invariant-pieces : goal.invariant-pieces
invariant-pieces l = record {
  pages : elements_view l.pieces.items ≡ take l.from l.runs;
  within : l.from ≤ length l.runs;
}

abbrev pub decreases-pieces : goal.decreases-pieces
decreases-pieces l = length l.runs - l.from
