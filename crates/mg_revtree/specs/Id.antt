-- For private clauses: how the id of a revision is kept, in the value itself or in a block.
use Rattle.std.specs.Prelude.{ℕ, List, string_bytes, IsUtf8}
use Rattle.mg_revtree.specs.declared.rev_id.HeldRevId.{HeldRevId}
use Rattle.mg_revtree.specs.declared.rev_id.HeldRevId.TheVariants.{Inline, Block}

-- the bytes of the id
abbrev pub held_id : HeldRevId → List ℕ
held_id (Inline bytes) = bytes
held_id (Block id) = string_bytes id

-- an id that is kept in the value itself is UTF-8 text
abbrev pub IsText : HeldRevId → Type 0
IsText (Inline bytes) = IsUtf8 bytes
IsText (Block id) = Unit {0}
