-- The flat lists of two values differ before either ends, or are equal.
use Rattle.std.proofs.Common.{◌≡◌, ℕ, suc, ℤ, pos, ◌<ℤ◌, ◌<◌, List, [], ◌∷◌, ◌++◌, Ordering, Less, Equal, Greater, nat_cmp, true, false, refl, sym, ap, ap₂, ◌∙◌, append_assoc, append-nil, arith}
use Rattle.std.specs.Cmp.Lexicographic.{slice_cmp}
use Rattle.std.specs.Ordering.{int_cmp, ordering_then, MatchOrdering}
use Rattle.std.specs.Cmp.{int_cmp_is, nat_cmp_is}
use Rattle.std.proofs.lemmas.Cmp.{int_ranked}
use Rattle.std.proofs.lemmas.Int.{ints}
use Rattle.mg_value.specs.Value.{Value, null, flag, whole, text, list, object, Items, no_items, item, Members, no_members, member}
use Rattle.mg_collate.specs.Order.{flat, flat_text, flat_items, flat_members, value_order, items_order}
use Rattle.mg_collate.specs.Compared.{members_order}

abbrev cmp : List ℤ → List ℤ → Ordering
cmp = slice_cmp int_cmp

pub then_equal : (o : Ordering) → ordering_then o Equal ≡ o
then_equal Less = refl
then_equal Equal = refl
then_equal Greater = refl

pub then_assoc : (o p q : Ordering) → ordering_then (ordering_then o p) q ≡ ordering_then o (ordering_then p q)
then_assoc Less p q = refl
then_assoc Equal p q = refl
then_assoc Greater p q = refl

-- two numbers decide, and then s and t
whole_cut : (o p : Ordering) → ordering_then o p ≡ ordering_then (ordering_then o Equal) p
whole_cut o p = ap (λ x. ordering_then x p) (sym (then_equal o))

below_suc : (n : ℕ) → int_cmp (pos 0) (pos (suc n)) ≡ Less
below_suc n = sym (int_cmp_is (pos 0) (pos (suc n)) Less (omega (arith, ints)))

above_suc : (n : ℕ) → int_cmp (pos (suc n)) (pos 0) ≡ Greater
above_suc n = sym (int_cmp_is (pos (suc n)) (pos 0) Greater (omega (arith, ints)))

lower : (x y : ℕ) (o : Ordering) → MatchOrdering o (pos (suc x) <ℤ pos (suc y)) (pos (suc x) ≡ pos (suc y)) (pos (suc y) <ℤ pos (suc x)) → MatchOrdering o (x < y) (x ≡ y) (y < x)
lower x y Less h = omega (arith, ints, h)
lower x y Equal h = omega (arith, ints, h)
lower x y Greater h = omega (arith, ints, h)

byte_cmp : (x y : ℕ) → int_cmp (pos (suc x)) (pos (suc y)) ≡ nat_cmp x y
byte_cmp x y = nat_cmp_is x y _ (lower x y _ (int_ranked (pos (suc x)) (pos (suc y)) _ refl))

pub text_cut : (xs ys : List ℕ) (s t : List ℤ) → cmp (flat_text xs ++ s) (flat_text ys ++ t) ≡ ordering_then (slice_cmp nat_cmp xs ys) (cmp s t)
text_cut [] [] s t = refl
text_cut [] (y ∷ ys) s t = rw (below_suc y)
text_cut (x ∷ xs) [] s t = rw (above_suc x)
text_cut (x ∷ xs) (y ∷ ys) s t = rw (byte_cmp x y, text_cut xs ys s t) (sym (then_assoc (nat_cmp x y) _ _))

pub text_order : (x y : List ℕ) → value_order (text x) (text y) ≡ slice_cmp nat_cmp x y
text_order x y = sym (ap₂ cmp (append-nil (flat_text x)) (append-nil (flat_text y))) ∙ text_cut x y [] [] ∙ then_equal (slice_cmp nat_cmp x y)

zero_below : (v : Value) (s t : List ℤ) → cmp (pos 0 ∷ s) (flat v ++ t) ≡ Less
zero_below null s t = refl
zero_below (flag false) s t = refl
zero_below (flag true) s t = refl
zero_below (whole z) s t = refl
zero_below (text x) s t = refl
zero_below (list vs) s t = refl
zero_below (object ms) s t = refl

above_zero : (v : Value) (s t : List ℤ) → cmp (flat v ++ s) (pos 0 ∷ t) ≡ Greater
above_zero null s t = refl
above_zero (flag false) s t = refl
above_zero (flag true) s t = refl
above_zero (whole z) s t = refl
above_zero (text x) s t = refl
above_zero (list vs) s t = refl
above_zero (object ms) s t = refl

abbrev Cut : Value → Value → Type 0
Cut v w = (s t : List ℤ) → cmp (flat v ++ s) (flat w ++ t) ≡ ordering_then (value_order v w) (cmp s t)

-- a value followed by a list decides before s and t, if the value does and the list does
pair_cut : (v w : Value) (xs ys s t : List ℤ) → Cut v w → cmp (xs ++ s) (ys ++ t) ≡ ordering_then (cmp xs ys) (cmp s t)
    → cmp ((flat v ++ xs) ++ s) ((flat w ++ ys) ++ t) ≡ ordering_then (cmp (flat v ++ xs) (flat w ++ ys)) (cmp s t)
pair_cut v w xs ys s t cut rest =
    ap₂ cmp (append_assoc (flat v) xs s) (append_assoc (flat w) ys t) ∙ cut (xs ++ s) (ys ++ t) ∙ ap (ordering_then (value_order v w)) rest
    ∙ sym (then_assoc (value_order v w) (cmp xs ys) (cmp s t)) ∙ ap (λ o. ordering_then o (cmp s t)) (sym (cut xs ys))

named_cut : (k l : List ℕ) (xs ys s t : List ℤ) → cmp (xs ++ s) (ys ++ t) ≡ ordering_then (cmp xs ys) (cmp s t)
    → cmp ((flat_text k ++ xs) ++ s) ((flat_text l ++ ys) ++ t) ≡ ordering_then (cmp (flat_text k ++ xs) (flat_text l ++ ys)) (cmp s t)
named_cut k l xs ys s t rest =
    ap₂ cmp (append_assoc (flat_text k) xs s) (append_assoc (flat_text l) ys t) ∙ text_cut k l (xs ++ s) (ys ++ t) ∙ ap (ordering_then (slice_cmp nat_cmp k l)) rest
    ∙ sym (then_assoc (slice_cmp nat_cmp k l) (cmp xs ys) (cmp s t)) ∙ ap (λ o. ordering_then o (cmp s t)) (sym (text_cut k l xs ys))

mutual
  pub flat_cut : (a b : Value) (s t : List ℤ) → cmp (flat a ++ s) (flat b ++ t) ≡ ordering_then (value_order a b) (cmp s t)
  flat_cut (whole z) (whole w) s t = whole_cut (int_cmp z w) (cmp s t)
  flat_cut (text x) (text y) s t = text_cut x y s t ∙ ap (λ o. ordering_then o (cmp s t)) (sym (text_order x y))
  flat_cut (list vs) (list ws) s t = items_cut vs ws s t
  flat_cut (object ms) (object ns) s t = members_cut ms ns s t
  flat_cut (flag false) (flag false) s t = refl
  flat_cut (flag false) (flag true) s t = refl
  flat_cut (flag true) (flag false) s t = refl
  flat_cut (flag true) (flag true) s t = refl
  flat_cut (flag true) b s t = refl
  flat_cut (flag false) b s t = refl
  flat_cut a (flag false) s t = refl
  flat_cut a (flag true) s t = refl
  flat_cut a b s t = refl

  items_cut : (a b : Items) (s t : List ℤ) → cmp (flat_items a ++ s) (flat_items b ++ t) ≡ ordering_then (cmp (flat_items a) (flat_items b)) (cmp s t)
  items_cut no_items no_items s t = refl
  items_cut no_items (item w ws) s t =
      ap (λ l. cmp (pos 0 ∷ s) l) (append_assoc (flat w) (flat_items ws) t) ∙ zero_below w s _ ∙ ap (λ o. ordering_then o (cmp s t)) (sym (zero_below w [] (flat_items ws)))
  items_cut (item v vs) no_items s t =
      ap (λ l. cmp l (pos 0 ∷ t)) (append_assoc (flat v) (flat_items vs) s) ∙ above_zero v _ t ∙ ap (λ o. ordering_then o (cmp s t)) (sym (above_zero v (flat_items vs) []))
  items_cut (item v vs) (item w ws) s t =
      pair_cut v w (flat_items vs) (flat_items ws) s t (flat_cut v w) (items_cut vs ws s t)

  members_cut : (a b : Members) (s t : List ℤ) → cmp (flat_members a ++ s) (flat_members b ++ t) ≡ ordering_then (cmp (flat_members a) (flat_members b)) (cmp s t)
  members_cut no_members no_members s t = refl
  members_cut no_members (member l w ns) s t = refl
  members_cut (member k v ms) no_members s t = refl
  members_cut (member k v ms) (member l w ns) s t =
      named_cut k l (flat v ++ flat_members ms) (flat w ++ flat_members ns) s t (pair_cut v w (flat_members ms) (flat_members ns) s t (flat_cut v w) (members_cut ms ns s t))

pub items_order-item : (v w : Value) (vs ws : Items) → items_order (item v vs) (item w ws) ≡ ordering_then (value_order v w) (items_order vs ws)
items_order-item v w vs ws = flat_cut v w (flat_items vs) (flat_items ws)

pub items_order-below : (w : Value) (ws : Items) → items_order no_items (item w ws) ≡ Less
items_order-below w ws = zero_below w [] (flat_items ws)

pub items_order-above : (v : Value) (vs : Items) → items_order (item v vs) no_items ≡ Greater
items_order-above v vs = above_zero v (flat_items vs) []

pub members_order-member : (k l : List ℕ) (v w : Value) (ms ns : Members) → members_order (member k v ms) (member l w ns) ≡ ordering_then (slice_cmp nat_cmp k l) (ordering_then (value_order v w) (members_order ms ns))
members_order-member k l v w ms ns = text_cut k l _ _ ∙ ap (ordering_then (slice_cmp nat_cmp k l)) (flat_cut v w (flat_members ms) (flat_members ns))
