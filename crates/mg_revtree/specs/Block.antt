-- For private clauses: how a body is kept, in a block of its own, in the block of a form, or without a block.
use Rattle.std.specs.Prelude.{⊤}
use Rattle.mg_value.specs.Value.{Value, object, no_members}
use Rattle.mg_revtree.specs.Body.{IsFormOf, bare}
use Rattle.mg_revtree.specs.declared.body.Block.{Block}
use Rattle.mg_revtree.specs.declared.body.Block.TheVariants.{Empty, Own, Served}

-- the body that a block holds
abbrev pub block_value : Block → Value
block_value Empty = object no_members
block_value (Own body) = body
block_value (Served form) = bare form

-- a form whose block keeps the body is that body with some id and some revision; true for any other block
abbrev pub IsFormIfServed : Block → Type 0
IsFormIfServed Empty = ⊤
IsFormIfServed (Own body) = ⊤
IsFormIfServed (Served form) = IsFormOf (bare form) form
