-- Values that the code can hold: JSON text can carry them, and their parts are of this kind.
use Rattle.std.proofs.Common.{◌≡◌, ℕ, suc, zero, ◌≤◌, ℤ, pos, negsuc, Bool, true, false, cond, List, [], ◌∷◌, ◌++◌, Option, Some, None, option_and_then, unwrap_or, map, max, IsUtf8, Ordering, Less, Equal, Greater, refl, ap, subst, arith}
use Rattle.std.proofs.lemmas.Str.{IsUtf8-append}
use Rattle.std.specs.Cmp.Lexicographic.{slice_cmp}
use Rattle.std.specs.Fmt.{decimal, signed_decimal}
use Rattle.std.specs.Ordering.{match_ordering, nat_cmp}
use Rattle.std.specs.Prelude.{slice_get}
use Rattle.std.proofs.DigitsParse.{digits-IsUtf8}
use Rattle.json.proofs.Printed.Utf8.{IsUtf8-are_ascii, IsUtf8-boolean, IsUtf8-quoted}
use Rattle.json.specs.Print.{quoted}
use Rattle.mg_value.specs.Held.{IsHeld, ItemsAreHeld, MembersAreHeld}
use Rattle.mg_value.specs.Stored.{AreStored, IsStored, MembersAreStored}
use Rattle.mg_value.specs.Text.{compact, compact_items, compact_members}
use Rattle.mg_value.specs.Value.{Value, null, flag, whole, text, list, object, Items, no_items, item, Members, no_members, member, depth, get_member, items_depth, item_list, member_of, members_depth, put}
use Rattle.mg_value.specs.View.{items_of}
use Rattle.mg_index.specs.Definition.{Steps}
use Rattle.mg_path.specs.Part.{item_place, part_of, part_of_step}
use Rattle.mg_query.specs.Page.{Candidate, value_at}

pub the_some : {X : Type 0} (x y : X) → Some x ≡ Some y → x ≡ y
the_some x y e = ap (λ o. unwrap_or o x) e

-- ---- they are held

mutual
  held : (v : Value) → IsStored v → IsHeld v
  held null h = tt
  held (flag b) h = tt
  held (whole z) h = h
  held (text s) h = tt
  held (list vs) h = items_held vs h
  held (object ms) h = members_held ms h

  pub items_held : (vs : Items) → AreStored vs → ItemsAreHeld vs
  items_held no_items h = tt
  items_held (item v vs) h = (held v h.0, items_held vs h.1)

  members_held : (ms : Members) → MembersAreStored ms → MembersAreHeld ms
  members_held no_members h = tt
  members_held (member k v ms) h = (h.0, held v h.2, members_held ms h.3)

-- ---- their text is UTF-8

abbrev comma_if : Bool → List ℕ
comma_if later = cond later (44 ∷ []) []

comma_utf8 : (later : Bool) → IsUtf8 (comma_if later)
comma_utf8 true = IsUtf8-are_ascii (44 ∷ []) refl
comma_utf8 false = IsUtf8-are_ascii [] refl

pub decimal_utf8 : (n : ℕ) → IsUtf8 (decimal n)
decimal_utf8 n = digits-IsUtf8 10 false n (omega arith) (omega arith)

number_utf8 : (z : ℤ) → IsUtf8 (signed_decimal z)
number_utf8 (pos n) = decimal_utf8 n
number_utf8 (negsuc n) = IsUtf8-append (45 ∷ []) (decimal (suc n)) (IsUtf8-are_ascii (45 ∷ []) refl) (decimal_utf8 (suc n))

mutual
  pub text_utf8 : (v : Value) → IsStored v → IsUtf8 (compact v)
  text_utf8 null h = IsUtf8-are_ascii (110 ∷ 117 ∷ 108 ∷ 108 ∷ []) refl
  text_utf8 (flag b) h = IsUtf8-boolean b
  text_utf8 (whole z) h = number_utf8 z
  text_utf8 (text s) h = IsUtf8-quoted s h
  text_utf8 (list vs) h = IsUtf8-append (91 ∷ []) (compact_items false vs) (IsUtf8-are_ascii (91 ∷ []) refl) (items_utf8 vs h false)
  text_utf8 (object ms) h = IsUtf8-append (123 ∷ []) (compact_members false ms) (IsUtf8-are_ascii (123 ∷ []) refl) (members_utf8 ms h false)

  items_utf8 : (vs : Items) → AreStored vs → (later : Bool) → IsUtf8 (compact_items later vs)
  items_utf8 no_items h later = IsUtf8-are_ascii (93 ∷ []) refl
  items_utf8 (item v vs) h later =
      IsUtf8-append (comma_if later) (compact v ++ compact_items true vs) (comma_utf8 later) (IsUtf8-append (compact v) (compact_items true vs) (text_utf8 v h.0) (items_utf8 vs h.1 true))

  members_utf8 : (ms : Members) → MembersAreStored ms → (later : Bool) → IsUtf8 (compact_members later ms)
  members_utf8 no_members h later = IsUtf8-are_ascii (125 ∷ []) refl
  members_utf8 (member k v ms) h later =
      IsUtf8-append (comma_if later) (quoted k ++ 58 ∷ (compact v ++ compact_members true ms)) (comma_utf8 later)
      (IsUtf8-append (quoted k) (58 ∷ (compact v ++ compact_members true ms)) (IsUtf8-quoted k h.1)
      (IsUtf8-append (58 ∷ []) (compact v ++ compact_members true ms) (IsUtf8-are_ascii (58 ∷ []) refl)
      (IsUtf8-append (compact v) (compact_members true ms) (text_utf8 v h.2) (members_utf8 ms h.3 true))))

-- ---- their parts

-- the code can hold the value, which nests at most n deep
abbrev pub IsStoredTo : ℕ → Value → Type 0
IsStoredTo n v = IsStored v × (depth v ≤ n)

pub deeper : (m n : ℕ) (v : Value) → IsStoredTo m v → m ≤ n → IsStoredTo n v
deeper m n v h le = (h.0, omega (arith, h.1, le))

got_by : (o : Ordering) (r : Option Value) (v w : Value) (n : ℕ) → IsStored v → (r ≡ Some w → IsStoredTo n w) → match_ordering o r (Some v) r ≡ Some w → IsStoredTo (max (depth v) n) w
got_by Less r v w n h rest e = deeper n (max (depth v) n) w (rest e) (omega arith)
got_by Equal r v w n h rest e = subst (IsStoredTo (max (depth v) n)) (the_some v w e) (h, omega arith)
got_by Greater r v w n h rest e = deeper n (max (depth v) n) w (rest e) (omega arith)

-- the value at a name
pub got : (k : List ℕ) (ms : Members) (w : Value) → MembersAreStored ms → get_member k ms ≡ Some w → IsStoredTo (members_depth ms) w
got k no_members w h e = absurd cc
got k (member l v ms) w h e = got_by (slice_cmp nat_cmp k l) (get_member k ms) v w (members_depth ms) h.2 (λ f. got k ms w h.3 f) e

-- the value at a name of an object
pub member_got : (k : List ℕ) (v w : Value) → IsStored v → member_of k v ≡ Some w → IsStored w × (suc (depth w) ≤ depth v)
member_got k (object ms) w h e = let p = got k ms w h e in (p.0, omega (arith, p.1))
member_got k null w h e = absurd cc
member_got k (flag b) w h e = absurd cc
member_got k (whole z) w h e = absurd cc
member_got k (text s) w h e = absurd cc
member_got k (list vs) w h e = absurd cc

nth : (n : ℕ) (vs : Items) (w : Value) → AreStored vs → slice_get (item_list vs) n ≡ Some w → IsStoredTo (items_depth vs) w
nth n no_items w h e = absurd cc
nth zero (item v vs) w h e = subst (IsStoredTo (max (depth v) (items_depth vs))) (the_some v w e) (h.0, omega arith)
nth (suc n) (item v vs) w h e = deeper (items_depth vs) (max (depth v) (items_depth vs)) w (nth n vs w h.1 e) (omega arith)

placed_part : (o : Option ℕ) (vs : Items) (w : Value) → AreStored vs → option_and_then (λ n. slice_get (item_list vs) n) o ≡ Some w → IsStoredTo (suc (items_depth vs)) w
placed_part None vs w h e = absurd cc
placed_part (Some n) vs w h e = deeper (items_depth vs) (suc (items_depth vs)) w (nth n vs w h e) (omega arith)

step_part : (step : List ℕ) (v w : Value) → IsStored v → part_of_step step v ≡ Some w → IsStoredTo (depth v) w
step_part step (object ms) w h e = deeper (members_depth ms) (suc (members_depth ms)) w (got step ms w h e) (omega arith)
step_part step (list vs) w h e = placed_part (item_place step) vs w h e
step_part step null w h e = absurd cc
step_part step (flag b) w h e = absurd cc
step_part step (whole z) w h e = absurd cc
step_part step (text s) w h e = absurd cc

part_then : (o : Option Value) (steps : Steps) (n : ℕ) (w : Value) → ((u : Value) → o ≡ Some u → IsStoredTo n u) → ((u : Value) → IsStored u → part_of steps u ≡ Some w → IsStoredTo (depth u) w)
    → option_and_then (part_of steps) o ≡ Some w → IsStoredTo n w
part_then None steps n w first rest e = absurd cc
part_then (Some u) steps n w first rest e = let p = first u refl in deeper (depth u) n w (rest u p.0 e) p.1

part : (steps : Steps) (v w : Value) → IsStored v → part_of steps v ≡ Some w → IsStoredTo (depth v) w
part [] v w h e = subst (IsStoredTo (depth v)) (the_some v w e) (h, omega arith)
part (step ∷ steps) v w h e = part_then (part_of_step step v) steps (depth v) w (λ u f. step_part step v u h f) (λ u k f. part steps u w k f) e

or_null : (o : Option Value) (n : ℕ) → ((w : Value) → o ≡ Some w → IsStoredTo n w) → IsStoredTo n (unwrap_or o null)
or_null None n h = (tt, omega arith)
or_null (Some w) n h = h w refl

-- the values at the columns
pub key_stored : (c : Candidate) (columns : List Steps) → IsStored c.form → AreStored (items_of (map (value_at c) columns)) × (items_depth (items_of (map (value_at c) columns)) ≤ depth c.form)
key_stored c [] h = (tt, omega arith)
key_stored c (column ∷ columns) h =
    let p = or_null (part_of column c.form) (depth c.form) (λ w e. part column c.form w h e) in
    let r = key_stored c columns h in ((p.0, r.0), omega (arith, p.1, r.1))

-- ---- a value at a name

put_by : (o : Ordering) (k l : List ℕ) (v w : Value) (ms ps : Members) → members_depth ps ≤ max (depth v) (members_depth ms)
    → members_depth (match_ordering o (member k v (member l w ms)) (member l v ms) (member l w ps)) ≤ max (depth v) (max (depth w) (members_depth ms))
put_by Less k l v w ms ps h = omega arith
put_by Equal k l v w ms ps h = omega arith
put_by Greater k l v w ms ps h = omega (arith, h)

pub put_depth : (k : List ℕ) (v : Value) (ms : Members) → members_depth (put k v ms) ≤ max (depth v) (members_depth ms)
put_depth k v no_members = omega arith
put_depth k v (member l w ms) = put_by (slice_cmp nat_cmp k l) k l v w ms (put k v ms) (put_depth k v ms)
