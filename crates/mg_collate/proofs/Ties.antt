-- Only equal values tie.
use Rattle.std.proofs.Common.{◌≡◌, ◌↔◌, ℕ, ℤ, List, [], ◌∷◌, ◌++◌, Ordering, Less, Equal, Greater, true, false, nat_cmp, ◌<ℤ◌, ◌<◌, refl, sym, ap, ap₂, ◌∙◌}
use Rattle.std.specs.Cmp.Lexicographic.{slice_cmp}
use Rattle.std.specs.Cmp.{IsTotalOrder}
use Rattle.std.proofs.lemmas.Cmp.{int_ranked, ranked, lists_total, on_total, int_cmp_total, nat_cmp_total, nat_list_cmp_total, tied_itself}
use Rattle.std.specs.Ordering.{int_cmp, ordering_then, MatchOrdering}
use Rattle.mg_value.specs.Value.{Value, null, flag, whole, text, list, object, Items, no_items, item, Members, no_members, member}
use Rattle.mg_value.specs.View.{items_of}
use Rattle.mg_collate.specs.Order.{flat, value_order, items_order, joined_members}
use Rattle.mg_collate.specs.Compared.{members_order}
use Rattle.mg_collate.specs.Row.{RowValue, row_value_order, row_value_order_total}
use Rattle.mg_collate.proofs.Flat.{then_equal, text_order, items_order-item, items_order-below, items_order-above, members_order-member}

pub value_order_total : IsTotalOrder value_order
value_order_total = on_total flat (lists_total int_cmp_total)

pub both : (o p : Ordering) → ordering_then o p ≡ Equal → (o ≡ Equal) × (p ≡ Equal)
both Less p h = absurd cc
both Equal p h = (refl, h)
both Greater p h = absurd cc

same_whole : (z w : ℤ) (o : Ordering) → MatchOrdering o (z <ℤ w) (z ≡ w) (w <ℤ z) → o ≡ Equal → z ≡ w
same_whole z w Less h e = absurd cc
same_whole z w Equal h e = h
same_whole z w Greater h e = absurd cc

same_byte : (x y : ℕ) (o : Ordering) → MatchOrdering o (x < y) (x ≡ y) (y < x) → o ≡ Equal → x ≡ y
same_byte x y Less h e = absurd cc
same_byte x y Equal h e = h
same_byte x y Greater h e = absurd cc

pub same_text : (xs ys : List ℕ) → slice_cmp nat_cmp xs ys ≡ Equal → xs ≡ ys
same_text [] [] h = refl
same_text [] (y ∷ ys) h = absurd cc
same_text (x ∷ xs) [] h = absurd cc
same_text (x ∷ xs) (y ∷ ys) h =
    let p = both (nat_cmp x y) (slice_cmp nat_cmp xs ys) h in ap₂ (λ p ps. p ∷ ps) (same_byte x y _ (ranked x y _ refl) p.0) (same_text xs ys p.1)

mutual
  pub same : (a b : Value) → value_order a b ≡ Equal → a ≡ b
  same null null h = refl
  same (flag false) (flag false) h = refl
  same (flag true) (flag true) h = refl
  same (whole z) (whole w) h = ap whole (same_whole z w _ (int_ranked z w _ refl) (sym (then_equal (int_cmp z w)) ∙ h))
  same (text x) (text y) h = ap text (same_text x y (sym (text_order x y) ∙ h))
  same (list vs) (list ws) h = ap list (same_items vs ws h)
  same (object ms) (object ns) h = ap object (same_members ms ns h)
  same (flag true) b h = absurd cc
  same (flag false) b h = absurd cc
  same a (flag true) h = absurd cc
  same a (flag false) h = absurd cc
  same a b h = absurd cc

  pub same_items : (a b : Items) → items_order a b ≡ Equal → a ≡ b
  same_items no_items no_items h = refl
  same_items no_items (item w ws) h = let e = items_order-below w ws in absurd cc
  same_items (item v vs) no_items h = let e = items_order-above v vs in absurd cc
  same_items (item v vs) (item w ws) h = let p = both (value_order v w) (items_order vs ws) (sym (items_order-item v w vs ws) ∙ h) in ap₂ item (same v w p.0) (same_items vs ws p.1)

  same_members : (a b : Members) → members_order a b ≡ Equal → a ≡ b
  same_members no_members no_members h = refl
  same_members no_members (member l w ns) h = absurd cc
  same_members (member k v ms) no_members h = absurd cc
  same_members (member k v ms) (member l w ns) h =
      let p = both (slice_cmp nat_cmp k l) (ordering_then (value_order v w) (members_order ms ns)) (sym (members_order-member k l v w ms ns) ∙ h) in
      let q = both (value_order v w) (members_order ms ns) p.1 in
      ap (λ x. member x v ms) (same_text k l p.0) ∙ ap₂ (member l) (same v w q.0) (same_members ms ns q.1)

pub value_tie : (a b : Value) → (value_order a b ≡ Equal) ↔ (a ≡ b)
value_tie a b = (same a b, λ e. ap (value_order a) (sym e) ∙ tied_itself value_order_total a)

pub same_rows : (a b : RowValue) → row_value_order a b ≡ Equal → a ≡ b
same_rows a b h =
    let p = both (items_order a.0 b.0) (slice_cmp nat_cmp a.1 b.1) h in
    let keys = same_items a.0 b.0 p.0 in let ids = same_text a.1 b.1 p.1 in ap₂ (λ (k : Items) (i : List ℕ). (k, i)) keys ids

pub row_tie : (a b : RowValue) → (row_value_order a b ≡ Equal) ↔ (a ≡ b)
row_tie a b = (same_rows a b, λ e. ap (row_value_order a) (sym e) ∙ tied_itself row_value_order_total a)

-- ---- a proper prefix is below

pub text_prefix : (s : List ℕ) (b : ℕ) (more : List ℕ) → slice_cmp nat_cmp s (s ++ b ∷ more) ≡ Less
text_prefix [] b more = refl
text_prefix (x ∷ s) b more = ap (λ o. ordering_then o (slice_cmp nat_cmp s (s ++ b ∷ more))) (tied_itself nat_cmp_total x) ∙ text_prefix s b more

pub items_prefix : (vs : List Value) (w : Value) (more : List Value) → items_order (items_of vs) (items_of (vs ++ w ∷ more)) ≡ Less
items_prefix [] w more = items_order-below w (items_of more)
items_prefix (v ∷ vs) w more =
    items_order-item v v (items_of vs) (items_of (vs ++ w ∷ more)) ∙ ap (λ o. ordering_then o (items_order (items_of vs) (items_of (vs ++ w ∷ more)))) (tied_itself value_order_total v) ∙ items_prefix vs w more

pub members_prefix : (ms : Members) (k : List ℕ) (w : Value) (more : Members) → members_order ms (joined_members ms (member k w more)) ≡ Less
members_prefix no_members k w more = refl
members_prefix (member l v ms) k w more =
    members_order-member l l v v ms (joined_members ms (member k w more)) ∙ ap₂ (λ o p. ordering_then o (ordering_then p (members_order ms (joined_members ms (member k w more))))) (tied_itself nat_list_cmp_total l) (tied_itself value_order_total v)
    ∙ members_prefix ms k w more
