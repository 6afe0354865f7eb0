-- The names of a map ascend.
use Rattle.std.proofs.Common.{◌≡◌, List, [], ◌∷◌, String, Global, Less, string_bytes, string_cmp}
use Rattle.std.specs.List.{AllByRecursion}
use Rattle.std.specs.List.Sorted.{IsStrictlySortedBy}
use Rattle.std.specs.Map.{keys_of}
use Rattle.mg_value.specs.Held.{AllAfter, NamesAscend}
use Rattle.mg_value.specs.View.{members_view}
use Rattle.mg_value.proofs.Views.{Entry}

all_after : (k : String Global) (es : List Entry) → AllByRecursion (λ y. string_cmp k y ≡ Less) (keys_of es) → AllAfter (string_bytes k) (members_view es)
all_after k [] h = tt
all_after k (e ∷ es) h = (h.0, all_after k es h.1)

pub names_ascend : (es : List Entry) → IsStrictlySortedBy string_cmp (keys_of es) → NamesAscend (members_view es)
unfolding IsStrictlySortedBy
names_ascend [] h = tt
names_ascend (e ∷ es) h = (all_after e.0 es h.0, names_ascend es h.1)
