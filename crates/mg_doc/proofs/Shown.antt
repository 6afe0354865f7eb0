-- A document beside its conflicts.
use Rattle.std.proofs.Common.{◌≡◌, ◌<◌, List, [], ◌∷◌, codes, length, map, refl, arith}
use Rattle.mg_value.specs.Value.{Value, list, with_member}
use Rattle.mg_value.specs.View.{items_of}
use Rattle.mg_revtree.specs.History.{Leaf}
use Rattle.mg_doc.specs.Conflicts.{leaf_text, with_losers}

-- where there are losers, their texts are put in
pub losers_put : (ls : List Leaf) (v : Value) → 0 < length ls → with_losers ls v ≡ with_member (codes "_conflicts") (list (items_of (map leaf_text ls))) v
losers_put [] v some = absurd (omega (arith, some))
losers_put (l ∷ ls) v some = refl
