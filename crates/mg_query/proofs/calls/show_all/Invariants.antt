use Rattle.std.proofs.Common.{◌≡◌, ◌++◌, List, map, drop}
use Rattle.mg_value.specs.View.{view}
use Rattle.mg_index.specs.Definition.{Steps}
use Rattle.mg_query.specs.Page.{Candidate, shown_of}
use Rattle.mg_query.specs.Lent.{LendEach}
use Rattle.mg_query.specs.View.{query_view}
use Rattle.mg_query.proofs.calls.show_all.Given as goal

-- the values so far, and those of the hits that are left, are the values of all hits
abbrev pub invariant-loop-hit : goal.invariant-loop-hit
invariant-loop-hit l =
    (columns : List Steps) (cs : List Candidate) → LendEach columns l.hits cs → map view l.docs.items ++ map (shown_of (query_view l.query)) (drop l.hit-index cs) ≡ map (shown_of (query_view l.query)) cs
