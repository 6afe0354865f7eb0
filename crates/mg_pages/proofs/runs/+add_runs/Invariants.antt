use Rattle.std.proofs.Common.{◌≡◌, ◌++◌, take}
use Rattle.mg_pages.specs.Runs.{elements_view}
use Rattle.mg_pages.specs.Subtree.{elements_of, levels_of}
use Rattle.mg_pages.proofs.runs.+add_runs.Given as goal

-- the slices of the children so far were added
abbrev pub invariant-loop-i : goal.invariant-loop-i
invariant-loop-i g l = elements_view l.runs.items ≡ elements_view l.initial.runs.items ++ elements_of (take l.i l.children)

abbrev pub decreases-add_runs : goal.decreases-add_runs
decreases-add_runs g l = levels_of l.children.now
