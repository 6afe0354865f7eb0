-- The order of the bytes is that of the values. These lemmas are here, and not with the other proofs, because `StandsFor`
-- uses them to show that bytes are those of at most one row.
use Rattle.std.proofs.Common.{◌≡◌, ℕ, zero, suc, ◌/◌, ◌%◌, ◌<◌, ℤ, pos, negsuc, ◌<ℤ◌, List, [], ◌∷◌, Ordering, Less, Equal, Greater, nat_cmp, true, false, refl, sym, ap, ap₂, ◌∙◌, arith}
use Rattle.std.specs.Cmp.Lexicographic.{slice_cmp}
use Rattle.std.specs.Cmp.{nat_cmp_is}
use Rattle.std.specs.Int.{w64}
use Rattle.std.specs.Prelude.{FitsSigned}
use Rattle.std.specs.Ordering.{int_cmp, ordering_then, MatchOrdering}
use Rattle.std.proofs.lemmas.Cmp.{int_ranked, ranked}
use Rattle.std.proofs.lemmas.Int.{ints}
use Rattle.mg_value.specs.Value.{Value, null, flag, whole, text, list, object, Items, no_items, item, Members, no_members, member}
use Rattle.mg_collate.specs.Order.{value_order, items_order}
use Rattle.mg_collate.specs.Compared.{members_order}
use Rattle.mg_collate.specs.Row.{RowValue, row_value_order}
use Rattle.mg_collate.proofs.Flat.{then_equal, then_assoc, text_order, items_order-item, items_order-below, items_order-above, members_order-member}
use Rattle.mg_rows.specs.Bytes.{bytes_order, big_endian, sign_turned, text_before, value_before, items_before, members_before, row_bytes}
use Rattle.mg_value.specs.Stored.{IsStored, AreStored, MembersAreStored}
use Rattle.mg_rows.specs.Stored.{IsStoredRow}

-- the high bytes decide, and where they tie the lowest one
split_one : (n m : ℕ) (o p : Ordering) → MatchOrdering o (n / 256 < m / 256) (n / 256 ≡ m / 256) (m / 256 < n / 256) → MatchOrdering p (n % 256 < m % 256) (n % 256 ≡ m % 256) (m % 256 < n % 256)
    → MatchOrdering (ordering_then o p) (n < m) (n ≡ m) (m < n)
split_one n m Less p h k = omega (arith, h)
split_one n m Greater p h k = omega (arith, h)
split_one n m Equal Less h k = omega (arith, h, k)
split_one n m Equal Equal h k = omega (arith, h, k)
split_one n m Equal Greater h k = omega (arith, h, k)

split_cmp : (n m : ℕ) → ordering_then (nat_cmp (n / 256) (m / 256)) (nat_cmp (n % 256) (m % 256)) ≡ nat_cmp n m
split_cmp n m = nat_cmp_is n m _ (split_one n m _ _ (ranked (n / 256) (m / 256) _ refl) (ranked (n % 256) (m % 256) _ refl))

-- n without its lowest k bytes
abbrev above : ℕ → ℕ → ℕ
above zero n = n
above (suc k) n = above k (n / 256)

high_cmp : (k n m : ℕ) (s t : List ℕ) → above k n ≡ 0 → above k m ≡ 0 → bytes_order (big_endian k n s) (big_endian k m t) ≡ ordering_then (nat_cmp n m) (bytes_order s t)
high_cmp zero n m s t h e = ap (λ o. ordering_then o (bytes_order s t)) (nat_cmp_is n m Equal (h ∙ sym e))
high_cmp (suc k) n m s t h e =
    high_cmp k (n / 256) (m / 256) (n % 256 ∷ s) (m % 256 ∷ t) h e
    ∙ sym (then_assoc (nat_cmp (n / 256) (m / 256)) (nat_cmp (n % 256) (m % 256)) (bytes_order s t))
    ∙ ap (λ o. ordering_then o (bytes_order s t)) (split_cmp n m)

pub lifted_small : (z : ℤ) → FitsSigned w64 z → sign_turned z < 18446744073709551616
lifted_small (pos n) h = omega (arith, ints, h)
lifted_small (negsuc n) h = omega (arith, ints, h)

lifted_match : (z w : ℤ) (o : Ordering) → FitsSigned w64 z → FitsSigned w64 w → MatchOrdering o (z <ℤ w) (z ≡ w) (w <ℤ z) → MatchOrdering o (sign_turned z < sign_turned w) (sign_turned z ≡ sign_turned w) (sign_turned w < sign_turned z)
lifted_match (pos n) (pos m) Less f g h = omega (arith, ints, f, g, h)
lifted_match (pos n) (negsuc m) Less f g h = omega (arith, ints, f, g, h)
lifted_match (negsuc n) (pos m) Less f g h = omega (arith, ints, f, g, h)
lifted_match (negsuc n) (negsuc m) Less f g h = omega (arith, ints, f, g, h)
lifted_match (pos n) (pos m) Greater f g h = omega (arith, ints, f, g, h)
lifted_match (pos n) (negsuc m) Greater f g h = omega (arith, ints, f, g, h)
lifted_match (negsuc n) (pos m) Greater f g h = omega (arith, ints, f, g, h)
lifted_match (negsuc n) (negsuc m) Greater f g h = omega (arith, ints, f, g, h)
lifted_match z w Equal f g h = ap sign_turned h

pub lifted_cmp : (z w : ℤ) → FitsSigned w64 z → FitsSigned w64 w → nat_cmp (sign_turned z) (sign_turned w) ≡ int_cmp z w
lifted_cmp z w f g = sym (nat_cmp_is (sign_turned z) (sign_turned w) _ (lifted_match z w _ f g (int_ranked z w _ refl)))

small_above : (n : ℕ) → n < 18446744073709551616 → above 8 n ≡ 0
small_above n h = omega (arith, h)

whole_cmp : (z w : ℤ) (s t : List ℕ) → FitsSigned w64 z → FitsSigned w64 w → bytes_order (big_endian 8 (sign_turned z) s) (big_endian 8 (sign_turned w) t) ≡ ordering_then (int_cmp z w) (bytes_order s t)
whole_cmp z w s t f g =
    high_cmp 8 (sign_turned z) (sign_turned w) s t (small_above (sign_turned z) (lifted_small z f)) (small_above (sign_turned w) (lifted_small w g)) ∙ ap (λ o. ordering_then o (bytes_order s t)) (lifted_cmp z w f g)

-- ---- texts

raised : (x y : ℕ) (o : Ordering) → MatchOrdering o (x < y) (x ≡ y) (y < x) → MatchOrdering o (suc x < suc y) (suc x ≡ suc y) (suc y < suc x)
raised x y Less h = omega (arith, h)
raised x y Equal h = ap suc h
raised x y Greater h = omega (arith, h)

raised_cmp : (x y : ℕ) → nat_cmp (suc x) (suc y) ≡ nat_cmp x y
raised_cmp x y = sym (nat_cmp_is (suc x) (suc y) _ (raised x y _ (ranked x y _ refl)))

below_suc : (n : ℕ) → nat_cmp 0 (suc n) ≡ Less
below_suc n = sym (nat_cmp_is 0 (suc n) Less (omega arith))

above_suc : (n : ℕ) → nat_cmp (suc n) 0 ≡ Greater
above_suc n = sym (nat_cmp_is (suc n) 0 Greater (omega arith))

pub text_cmp : (x y s t : List ℕ) → bytes_order (text_before x s) (text_before y t) ≡ ordering_then (slice_cmp nat_cmp x y) (bytes_order s t)
text_cmp [] [] s t = refl
text_cmp [] (y ∷ ys) s t = ap (λ o. ordering_then o (bytes_order s (text_before ys t))) (below_suc y)
text_cmp (x ∷ xs) [] s t = ap (λ o. ordering_then o (bytes_order (text_before xs s) t)) (above_suc x)
text_cmp (x ∷ xs) (y ∷ ys) s t = ap₂ ordering_then (raised_cmp x y) (text_cmp xs ys s t) ∙ sym (then_assoc (nat_cmp x y) _ _)

-- ---- values

pub zero_below : (v : Value) (s t : List ℕ) → bytes_order (0 ∷ s) (value_before v t) ≡ Less
zero_below null s t = refl
zero_below (flag false) s t = refl
zero_below (flag true) s t = refl
zero_below (whole z) s t = refl
zero_below (text x) s t = refl
zero_below (list vs) s t = refl
zero_below (object ms) s t = refl

pub above_zero : (v : Value) (s t : List ℕ) → bytes_order (value_before v s) (0 ∷ t) ≡ Greater
above_zero null s t = refl
above_zero (flag false) s t = refl
above_zero (flag true) s t = refl
above_zero (whole z) s t = refl
above_zero (text x) s t = refl
above_zero (list vs) s t = refl
above_zero (object ms) s t = refl

-- an order by o, and then by p and q together (r), is one by o and p together, and then by q
pub then_two : (o p q r : Ordering) → r ≡ ordering_then p q → ordering_then o r ≡ ordering_then (ordering_then o p) q
then_two o p q r e = ap (ordering_then o) e ∙ sym (then_assoc o p q)

mutual
  pub value_cmp : (a b : Value) (s t : List ℕ) → IsStored a → IsStored b → bytes_order (value_before a s) (value_before b t) ≡ ordering_then (value_order a b) (bytes_order s t)
  value_cmp (whole z) (whole w) s t f g = whole_cmp z w s t f g ∙ ap (λ o. ordering_then o (bytes_order s t)) (sym (then_equal (int_cmp z w)))
  value_cmp (text x) (text y) s t f g = text_cmp x y s t ∙ ap (λ o. ordering_then o (bytes_order s t)) (sym (text_order x y))
  value_cmp (list vs) (list ws) s t f g = items_cmp vs ws s t f g
  value_cmp (object ms) (object ns) s t f g = members_cmp ms ns s t f g
  value_cmp (flag false) (flag false) s t f g = refl
  value_cmp (flag false) (flag true) s t f g = refl
  value_cmp (flag true) (flag false) s t f g = refl
  value_cmp (flag true) (flag true) s t f g = refl
  value_cmp (flag true) b s t f g = refl
  value_cmp (flag false) b s t f g = refl
  value_cmp a (flag false) s t f g = refl
  value_cmp a (flag true) s t f g = refl
  value_cmp a b s t f g = refl

  pub items_cmp : (a b : Items) (s t : List ℕ) → AreStored a → AreStored b → bytes_order (items_before a s) (items_before b t) ≡ ordering_then (items_order a b) (bytes_order s t)
  items_cmp no_items no_items s t f g = refl
  items_cmp no_items (item w ws) s t f g = zero_below w s (items_before ws t) ∙ ap (λ o. ordering_then o (bytes_order s t)) (sym (items_order-below w ws))
  items_cmp (item v vs) no_items s t f g = above_zero v (items_before vs s) t ∙ ap (λ o. ordering_then o (bytes_order s t)) (sym (items_order-above v vs))
  items_cmp (item v vs) (item w ws) s t f g =
      value_cmp v w (items_before vs s) (items_before ws t) f.0 g.0 ∙ then_two (value_order v w) (items_order vs ws) (bytes_order s t) _ (items_cmp vs ws s t f.1 g.1)
      ∙ ap (λ o. ordering_then o (bytes_order s t)) (sym (items_order-item v w vs ws))

  pub members_cmp : (a b : Members) (s t : List ℕ) → MembersAreStored a → MembersAreStored b → bytes_order (members_before a s) (members_before b t) ≡ ordering_then (members_order a b) (bytes_order s t)
  members_cmp no_members no_members s t f g = refl
  members_cmp no_members (member l w ns) s t f g = refl
  members_cmp (member k v ms) no_members s t f g = refl
  members_cmp (member k v ms) (member l w ns) s t f g =
      text_cmp k l (value_before v (members_before ms s)) (value_before w (members_before ns t))
      ∙ then_two (slice_cmp nat_cmp k l) (ordering_then (value_order v w) (members_order ms ns)) (bytes_order s t) _
      (value_cmp v w (members_before ms s) (members_before ns t) f.2 g.2 ∙ then_two (value_order v w) (members_order ms ns) (bytes_order s t) _ (members_cmp ms ns s t f.3 g.3))
      ∙ ap (λ o. ordering_then o (bytes_order s t)) (sym (members_order-member k l v w ms ns))

-- ---- rows

pub row_cmp : (a b : RowValue) → IsStoredRow a → IsStoredRow b → bytes_order (row_bytes a) (row_bytes b) ≡ row_value_order a b
row_cmp a b f g = items_cmp a.0 b.0 a.1 b.1 f.0 g.0
