-- For private clauses: the id of a new edit's revision, as far as the edit alone says.
use Rattle.std.specs.Prelude.{ℕ, List, Bool, Option, None, Some}
use Rattle.mg_value.specs.Value.{Value}
use Rattle.mg_doc.specs.Digest.{digest_of}
use Rattle.mg_doc.specs.declared.change.Change.{Change}
use Rattle.mg_doc.specs.declared.change.Change.TheVariants.{New, Replica}

-- the id that is made ahead: that of a revision over the named one or, if none is named, of a first revision; a replica's change has none
abbrev pub ahead_of : Change → Bool → Value → Option (List ℕ)
ahead_of (New named) deleted body = Some (digest_of deleted named body)
ahead_of (Replica run) deleted body = None
