-- The path of a revision, after `_revisions` of CouchDB's `GET` of a document: the revision and its known ancestors.
use Rattle.std.specs.Prelude.{ℕ, zero, suc, List, [], ◌∷◌}
use Rattle.std.specs.Option.{option_map_or}
use Rattle.mg_revtree.specs.Revision.{Revision}
use Rattle.mg_revtree.specs.History.{Link, Paths, all_links, parent_of}

-- the revision, the parent that these links give it, the parent of that one and so on, newest first; at most n revisions
abbrev pub lineage : List Link → ℕ → Revision → List Revision
lineage ls zero r = []
lineage ls (suc n) r = r ∷ option_map_or (lineage ls n) (parent_of r ls) []

-- the revision and its known ancestors, newest first. Each is a position below the one before it, and positions are counted from 1, so there
-- are at most as many as the revision's position says
abbrev pub ancestry : Paths → Revision → List Revision
ancestry h r = lineage (all_links h) r.0 r
