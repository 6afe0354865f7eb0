use Rattle.std.proofs.Common.{◌≡◌, drop, map, string_bytes}
use Rattle.std.specs.List.{list_any}
use Rattle.mg_revtree.specs.Revision.{run_from, same_revision}
use Rattle.mg_engine.proofs.more.is_on_path.Given as goal

-- the revision is among those of all ids if it is among those that are left
abbrev pub invariant-loop-id : goal.invariant-loop-id
invariant-loop-id l = list_any (same_revision l.fn.rev) (run_from l.fn.newest (map string_bytes l.fn.ids))
    ≡ list_any (same_revision l.fn.rev) (run_from l.pos (map string_bytes (drop l.id-index l.fn.ids)))
