-- What is known of every `Json` that the code holds, and, for private clauses, the tokens that are written for it.
use Rattle.std.specs.Prelude.{◌≡◌, ℕ, List, FitsSigned, ⊤}
use Rattle.std.specs.Int.{w64}
use Rattle.std.specs.Ordering.{nat_cmp}
use Rattle.std.specs.declared.cmp.Ordering.TheVariants.{Less}
use Rattle.std.specs.Cmp.Lexicographic.{slice_cmp}
use Rattle.json.specs.Token.{Token}
use Rattle.json.specs.Tree.{json_tokens}
use Rattle.json.specs.Tree as tree
use Rattle.serde_json.specs.Written.{outline, items_outline, members_outline}
use Rattle.mg_value.specs.Value.{Value, null, flag, whole, text, list, object, Items, no_items, item, Members, no_members, member}
use Rattle.mg_value.specs.Text.{data_of, data_items, data_members}

-- each name comes after k
abbrev pub AllAfter : List ℕ → Members → Type 0
AllAfter k no_members = ⊤
AllAfter k (member l v ms) = (slice_cmp nat_cmp k l ≡ Less) × AllAfter k ms

-- each name comes after those before it
abbrev pub NamesAscend : Members → Type 0
NamesAscend no_members = ⊤
NamesAscend (member k v ms) = AllAfter k ms × NamesAscend ms

-- each number is an i64, and each object has its names in ascending order
abbrev mutual
  pub IsHeld : Value → Type 0
  IsHeld null = ⊤
  IsHeld (flag b) = ⊤
  IsHeld (whole z) = FitsSigned w64 z
  IsHeld (text s) = ⊤
  IsHeld (list vs) = ItemsAreHeld vs
  IsHeld (object ms) = MembersAreHeld ms

  pub ItemsAreHeld : Items → Type 0
  ItemsAreHeld no_items = ⊤
  ItemsAreHeld (item v vs) = IsHeld v × ItemsAreHeld vs

  pub MembersAreHeld : Members → Type 0
  MembersAreHeld no_members = ⊤
  MembersAreHeld (member k v ms) = AllAfter k ms × IsHeld v × MembersAreHeld ms

-- the tokens of the compact text of a value
abbrev pub tokens_of : Value → List Token
tokens_of v = json_tokens (outline (data_of v))

-- the tokens of an array's items, and of its closing bracket
abbrev pub items_tokens_of : Items → List Token
items_tokens_of vs = tree.items_tokens (items_outline (data_items vs))

-- the tokens of an object's members, and of its closing brace
abbrev pub members_tokens_of : Members → List Token
members_tokens_of ms = tree.members_tokens (members_outline (data_members ms))
