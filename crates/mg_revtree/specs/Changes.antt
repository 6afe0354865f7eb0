-- How a history grows, after the replication and conflict model of CouchDB: by a path of a replica, or by a new revision.
use Rattle.std.specs.Prelude.{◌≡◌, ◌==◌, Result, Ok, Err, IsOkUnless, ℕ, ◌+◌, List, [], ◌∷◌, ◌++◌, Bool, false, not, is_none, is_some, if◌then◌else◌, Option, Some, None}
use Rattle.mg_value.specs.Value.{Value}
use Rattle.mg_revtree.specs.Revision.{Revision}
use Rattle.mg_revtree.specs.History.{Path, Paths, all_links, is_known, leaf_at, newest_of, winner_of}
use Rattle.mg_revtree.specs.declared.error.Merged.{Merged}
use Rattle.mg_revtree.specs.declared.error.Merged.TheVariants.{New, Known as Known_already}
use Rattle.mg_revtree.specs.declared.error.TreeRefusal.{TreeRefusal}
use Rattle.mg_revtree.specs.declared.error.TreeRefusal.TheVariants.{NotLeaf, Full, Known}
use Rattle.mg_revtree.specs.declared.error.TreeError.{TreeError}
use Rattle.mg_revtree.specs.declared.error.TreeError.TheVariants.{NotLeaf as not_leaf, Full as full, Known as known, NoMemory as no_memory}

-- a path with its mark and body
abbrev pub path_of : List Revision → Bool → Value → Path
path_of rs d b = record { revs = rs; deleted = d; body = b }

-- a history with one more path
abbrev pub with_path : Paths → Path → Paths
with_path h p = h ++ p ∷ []

-- ---- a path of a replica

-- whether an optional revision is known; false if there is none
abbrev pub knows : Paths → Option Revision → Bool
knows h None = false
knows h (Some r) = is_known r (all_links h)

-- whether a merge finds the newest revision known or new
abbrev pub found_of : Paths → List Revision → Merged
found_of h rs = if knows h (newest_of rs) then Known_already else New

-- ---- a new revision

-- whether a new revision may be made over this base, which has to be a leaf, or without a base, if there is no leaf
abbrev pub may_extend : Paths → Option Revision → Bool
may_extend h None = is_none (winner_of h)
may_extend h (Some r) = is_some (leaf_at r h)

-- the position below a new revision: that of its base, or 0 without a base
abbrev pub position_below : Option Revision → ℕ
position_below None = 0
position_below (Some r) = r.0

-- the revision of this id that is made over a base; without a base, the first revision of a document, at position 1
abbrev pub next_revision : Option Revision → List ℕ → Revision
next_revision base id = (position_below base + 1, id)

-- the run of a new revision: the revision, and after it the leaf that it extends, if there is one
abbrev pub run_over : Revision → Option Revision → List Revision
run_over r None = r ∷ []
run_over r (Some q) = r ∷ q ∷ []

-- the path of a new revision, made over a base or as the first of a document, with its mark and body
abbrev pub extension : Option Revision → List ℕ → Bool → Value → Path
extension base id d b = path_of (run_over (next_revision base id) base) d b

-- the position of a new revision: one above its base, or 1 without a base; or why it is refused: it may not be made over this base, or
-- the base has the last position
abbrev pub next_position : Paths → Option Revision → Result ℕ TreeRefusal
next_position h base =
    if not (may_extend h base) then Err NotLeaf
    else (if position_below base == 4294967295 then Err Full else Ok (position_below base + 1))

-- why a new revision is refused, if it is: it may not be made over this base, the base has the last position, or the revision is already
-- known
abbrev pub refusal_of : Paths → Option Revision → List ℕ → Option TreeRefusal
refusal_of h base id =
    if not (may_extend h base) then Some NotLeaf
    else (if position_below base == 4294967295 then Some Full
    else (if is_known (next_revision base id) (all_links h) then Some Known else None))

-- the error that reports a refusal
abbrev pub error_of : TreeRefusal → TreeError
error_of NotLeaf = not_leaf
error_of Full = full
error_of Known = known

-- the position above a base, unless there is this refusal
abbrev pub position_unless : Option TreeRefusal → Option Revision → Result ℕ TreeError
position_unless None base = Ok (position_below base + 1)
position_unless (Some refusal) base = Err (error_of refusal)

-- the position at which the revision of this id may be made over a base, or the error that reports why it is refused
abbrev pub open_position : Paths → Option Revision → List ℕ → Result ℕ TreeError
open_position h base id = position_unless (refusal_of h base id) base

-- the result reports this refusal; without a refusal it succeeds or runs out of memory
abbrev pub Decides : Option TreeRefusal → Result (Unit {0}) TreeError → Type 0
Decides None result = IsOkUnless result no_memory
Decides (Some refusal) result = result ≡ Err (error_of refusal)
