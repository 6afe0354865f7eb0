-- For private clauses: the id of a document, in the value itself or in a block.
use Rattle.std.specs.Prelude.{◌≤◌, ℕ, List, take, string_bytes, IsUtf8}
use Rattle.mg_shard.specs.declared.document_id.HeldId.{HeldId}
use Rattle.mg_shard.specs.declared.document_id.HeldId.TheVariants.{Inline, Block}

-- the bytes of the id; of an array in the value itself, only the first `count` bytes belong to it
abbrev pub held_id : HeldId → List ℕ
held_id (Inline count bytes) = take count bytes
held_id (Block id) = string_bytes id

-- an id that is stored in the value itself is UTF-8 text of at most 38 bytes; an id in a block is text by its type
abbrev pub IsText : HeldId → Type 0
IsText (Inline count bytes) = (count ≤ 38) × IsUtf8 (take count bytes)
IsText (Block id) = Unit {0}
