-- What a `Json` can hold: each number is an i64, texts and names are UTF-8, and the names of an object ascend.
use Rattle.std.specs.Prelude.{FitsSigned, IsUtf8, ⊤}
use Rattle.std.specs.Int.{w64}
use Rattle.mg_value.specs.Held.{AllAfter}
use Rattle.mg_value.specs.Value.{Value, null, flag, whole, text, list, object, Items, no_items, item, Members, no_members, member}

abbrev mutual
  -- a `Json` can hold the value
  pub IsStored : Value → Type 0
  IsStored null = ⊤
  IsStored (flag b) = ⊤
  IsStored (whole z) = FitsSigned w64 z
  IsStored (text s) = IsUtf8 s
  IsStored (list vs) = AreStored vs
  IsStored (object ms) = MembersAreStored ms

  -- a `Json` can hold each of the items
  pub AreStored : Items → Type 0
  AreStored no_items = ⊤
  AreStored (item v vs) = IsStored v × AreStored vs

  -- a `Json` can hold each of the members, and their names ascend
  pub MembersAreStored : Members → Type 0
  MembersAreStored no_members = ⊤
  MembersAreStored (member k v ms) = AllAfter k ms × IsUtf8 k × IsStored v × MembersAreStored ms
