-- The value that a `Kind` stands for.
use Rattle.std.specs.Prelude.{ℕ, List}
use Rattle.mg_value.specs.Value.{Value, null, flag, whole, text, list, object, Items, Members}
use Rattle.mg_value.specs.declared.kind.Kind.{Kind}
use Rattle.mg_value.specs.declared.kind.Kind.TheVariants as made

-- the value of a `Kind`, from what its text, its items and its members stand for
abbrev pub kind_value : {T I M : Type 0} → (T → List ℕ) → (I → Items) → (M → Members) → Kind T I M → Value
kind_value bytes items members made.Null = null
kind_value bytes items members (made.Flag b) = flag b
kind_value bytes items members (made.Whole z) = whole z
kind_value bytes items members (made.Text s) = text (bytes s)
kind_value bytes items members (made.List vs) = list (items vs)
kind_value bytes items members (made.Object ms) = object (members ms)
