-- For private clauses: the parts of a parse tree, with the values that they stand for, and its members sorted by name.
use Rattle.std.specs.Prelude.{◌≡◌, ℕ, List, [], ◌∷◌, ◌++◌, Option, Some, option_map, option_and_then, IsUtf8, ⊤}
use Rattle.std.specs.Borrow.{Bor}
use Rattle.std.specs.Cmp.Lexicographic.{slice_cmp}
use Rattle.std.specs.List.Sorted.{IsStrictlySortedBy}
use Rattle.std.specs.Map.{keys_of}
use Rattle.std.specs.Ordering.{nat_cmp}
use Rattle.std.specs.declared.cmp.Ordering.{Ordering}
use Rattle.std.specs.declared.alloc.Global.{Global}
use Rattle.json.specs.Json as json
use Rattle.json.specs.Value.{value_view}
use Rattle.json.specs.declared.value.Value.{Value as Tree}
use Rattle.serde_json.specs.Data as parsed
use Rattle.serde_json.specs.Read.{of_json, of_members}
use Rattle.mg_packed.specs.Tables.{tables}
use Rattle.mg_value.specs.Borrowed.{IsTreeOf}
use Rattle.mg_value.specs.Stored.{IsStored}
use Rattle.mg_value.specs.Text.{compact}
use Rattle.mg_value.specs.Value.{Value, Items, no_items, item, Members, no_members, member}

-- a member of a parse tree: its name and its tree
abbrev pub TreeMember : Type 0
TreeMember = Bor (List ℕ) × Bor (Tree Global)

-- the order of two names
abbrev pub by_name : Bor (List ℕ) → Bor (List ℕ) → Ordering
by_name k l = slice_cmp nat_cmp k.now l.now

-- the names ascend
abbrev pub Ascend : List TreeMember → Type 0
Ascend es = IsStrictlySortedBy by_name (keys_of es)

-- the data of the members in this order; `None` if a member's value has no data
abbrev pub sorted_data : List TreeMember → Option parsed.Members
sorted_data [] = Some parsed.no_members
sorted_data (e ∷ es) = option_and_then (λ d. option_map (parsed.member e.0.now d) (sorted_data es)) (of_json (value_view e.1.now))

-- if the sorted members have data, reading the members in the order of the text gives the same data
abbrev pub IsSorting : List TreeMember → json.Members → Type 0
IsSorting es js = (ds : parsed.Members) → sorted_data es ≡ Some ds → of_members js parsed.no_members ≡ Some ds

-- each tree stands for the item at the same index, which a `Json` can hold, and there are as many trees as items
abbrev pub ItemsMatch : List (Tree Global) → Items → Type 0
ItemsMatch [] no_items = ⊤
ItemsMatch [] (item v vs) = ⊥
ItemsMatch (t ∷ ts) no_items = ⊥
ItemsMatch (t ∷ ts) (item v vs) = IsTreeOf (value_view t) v × IsStored v × ItemsMatch ts vs

-- each pair of a name and a tree stands for the member at the same index, which a `Json` can hold, and there are as many pairs as members
abbrev pub MembersMatch : List TreeMember → Members → Type 0
MembersMatch [] no_members = ⊤
MembersMatch [] (member k v ms) = ⊥
MembersMatch (e ∷ es) no_members = ⊥
MembersMatch (e ∷ es) (member k v ms) = (e.0.now ≡ k) × IsUtf8 k × IsTreeOf (value_view e.1.now) v × IsStored v × MembersMatch es ms

-- the new text and tables are the old ones, and then those of v
pub record IsAdded (v : Value) (b0 t0 b t : List ℕ) : Type 0 where
  pub text : b ≡ b0 ++ compact v
  pub tables : t ≡ t0 ++ tables v
  pub stored : IsStored v

-- they are the old ones, and then those of a value that the tree stands for
abbrev pub IsPushed : json.Json → List ℕ → List ℕ → List ℕ → List ℕ → Type 0
IsPushed j b0 t0 b t = (v : Value) × IsTreeOf j v × IsAdded v b0 t0 b t

-- the members of the parse tree, sorted by name, stand for these members
abbrev pub AreSortedMembers : json.Members → Members → Type 0
AreSortedMembers js ms = (es : List TreeMember) × IsSorting es js × Ascend es × MembersMatch es ms
