-- The losers of a history, after the conflicts of CouchDB's replication model.
use Rattle.std.specs.Prelude.{List, not, drop}
use Rattle.std.specs.List.{filter}
use Rattle.mg_revtree.specs.History.{Paths, Leaf, leaves_of}

-- the leaves that are not deleted, except the first leaf, which is the winner; best first
abbrev pub losers_of : Paths → List Leaf
losers_of h = filter (λ l. not l.deleted) (drop 1 (leaves_of h))
