-- For ghost fields: the row, the key or the bound that bytes stand for. Bytes stand for at most one of each.
use Rattle.std.proofs.Common.{◌≡◌, ℕ, ◌<◌, List, [], ◌∷◌, Equal, Less, refl, sym, subst, ap, ap₂, ◌∙◌, arith, true, false, IsUtf8}
use Rattle.std.specs.Prelude.{⊤}
use Rattle.std.specs.Coded.{×_prop, Unit-prop, Coded-set, coded×, coded_list, coded_ℕ}
use Rattle.std.proofs.Props.{props}
use Rattle.std.proofs.lemmas.Cmp.{nat_list_cmp_total, tied_itself}
use mathlib.Core.HLevel.{Σ_prop_path}
use Rattle.mg_value.specs.Held.{AllAfter}
use Rattle.mg_value.specs.Value.{Value, null, flag, whole, text, list, object, Items, no_items, item, Members, no_members, member}
use Rattle.mg_collate.specs.Order.{value_order, items_order}
use Rattle.mg_collate.specs.Row.{RowValue}
use Rattle.mg_collate.proofs.Ties.{both, same, same_items, same_rows, same_text}
use Rattle.mg_rows.specs.Bytes.{bytes_order, value_before, items_before, columns_before, row_bytes, row_parts}
use Rattle.mg_value.specs.Stored.{IsStored, AreStored, MembersAreStored}
use Rattle.mg_rows.specs.Stored.{IsStoredRow, IsKey, IsRow}
use Rattle.mg_rows.specs.RowBound.{IsRowBound, edge_bytes}
use Rattle.mg_rows.specs.ByteOrder.{value_cmp, items_cmp, row_cmp}
use Rattle.mg_rows.specs.declared.edge.Edge.{Edge}
use Rattle.mg_rows.specs.declared.edge.Edge.TheVariants.{Before, After}

-- the bytes are those of a row: the first part of the pair is the row
abbrev pub RowOf : List ℕ × List ℕ → Type 0
RowOf parts = (row : RowValue) × IsRow parts row

-- the bytes are those of a key, without the byte that ends a key: the first part of the pair is the key
abbrev pub KeyOf : List ℕ → Type 0
KeyOf bytes = (key : Items) × IsKey bytes key

-- the bytes are those of a bound: the first part of the pair is the bound
abbrev pub BoundOf : List ℕ → Type 0
BoundOf bytes = (place : Edge × Items) × IsRowBound place.0 bytes place.1

-- ---- what is known of stored values has at most one proof

AllAfter-prop : (k : List ℕ) (ms : Members) → IsProp (AllAfter k ms)
AllAfter-prop k no_members = Unit-prop
AllAfter-prop k (member l v ms) = hlevel (props, AllAfter-prop k ms)

mutual
  IsStored-prop : (v : Value) → IsProp (IsStored v)
  IsStored-prop null = Unit-prop
  IsStored-prop (flag b) = Unit-prop
  IsStored-prop (whole z) = hlevel props
  IsStored-prop (text s) = hlevel props
  IsStored-prop (list vs) = AreStored-prop vs
  IsStored-prop (object ms) = MembersAreStored-prop ms

  AreStored-prop : (vs : Items) → IsProp (AreStored vs)
  AreStored-prop no_items = Unit-prop
  AreStored-prop (item v vs) = ×_prop (IsStored-prop v) (AreStored-prop vs)

  MembersAreStored-prop : (ms : Members) → IsProp (MembersAreStored ms)
  MembersAreStored-prop no_members = Unit-prop
  MembersAreStored-prop (member k v ms) = hlevel (props, AllAfter-prop k ms, IsStored-prop v, MembersAreStored-prop ms)

bytes_prop : (x y : List ℕ) → IsProp (x ≡ y)
bytes_prop x y = Coded-set (coded_list coded_ℕ) x y

utf8_prop : (s : List ℕ) → IsProp (IsUtf8 s)
utf8_prop s = hlevel props

pub IsRow-prop : (parts : List ℕ × List ℕ) (row : RowValue) → IsProp (IsRow parts row)
IsRow-prop parts row = ×_prop (×_prop (AreStored-prop row.0) (utf8_prop row.1)) (Coded-set (coded× (coded_list coded_ℕ) (coded_list coded_ℕ)) parts (row_parts row))

pub IsKey-prop : (bytes : List ℕ) (key : Items) → IsProp (IsKey bytes key)
IsKey-prop bytes key = ×_prop (AreStored-prop key) (bytes_prop bytes _)

pub IsRowBound-prop : (bytes : List ℕ) (place : Edge × Items) → IsProp (IsRowBound place.0 bytes place.1)
IsRowBound-prop bytes place = ×_prop (AreStored-prop place.1) (bytes_prop bytes (columns_before place.1 (edge_bytes place.0)))

-- ---- bytes are those of one value

-- bytes that begin with those of a value determine the value and the bytes after it
pub one_value : (a b : Value) (s t : List ℕ) → IsStored a → IsStored b → value_before a s ≡ value_before b t → (a ≡ b) × (s ≡ t)
one_value a b s t f g e =
    let p = both (value_order a b) (bytes_order s t) (sym (value_cmp a b s t f g) ∙ ap (bytes_order (value_before a s)) (sym e) ∙ tied_itself nat_list_cmp_total (value_before a s)) in
    (same a b p.0, same_text s t p.1)

-- the bytes of a row determine the row
pub one_row : (a b : RowValue) → IsStoredRow a → IsStoredRow b → row_bytes a ≡ row_bytes b → a ≡ b
one_row a b f g e = same_rows a b (sym (row_cmp a b f g) ∙ ap (bytes_order (row_bytes a)) (sym e) ∙ tied_itself nat_list_cmp_total (row_bytes a))

-- the bytes of a key, with the byte that ends it, determine the key
one_items : (a b : Items) → AreStored a → AreStored b → items_before a [] ≡ items_before b [] → a ≡ b
one_items a b f g e = same_items a b (both (items_order a b) (bytes_order [] []) (sym (items_cmp a b [] [] f g) ∙ ap (bytes_order (items_before a [])) (sym e) ∙ tied_itself nat_list_cmp_total (items_before a []))).0

pub one_row_of_parts : (p : List ℕ × List ℕ) (a b : RowValue) → IsRow p a → IsRow p b → a ≡ b
one_row_of_parts p a b f g = let e = sym f.1 ∙ g.1 in ap₂ (λ k i. (k, i)) (one_items a.0 b.0 f.0.0 g.0.0 (ap (λ (q : List ℕ × List ℕ). q.0) e)) (ap (λ (q : List ℕ × List ℕ). q.1) e)

-- the first byte, if there is one, is below 255
abbrev pub BeginsLow : List ℕ → Type 0
BeginsLow [] = ⊤
BeginsLow (b ∷ bs) = b < 255

pub value_low : (v : Value) (rest : List ℕ) → BeginsLow (value_before v rest)
value_low null rest = omega arith
value_low (flag false) rest = omega arith
value_low (flag true) rest = omega arith
value_low (whole z) rest = omega arith
value_low (text s) rest = omega arith
value_low (list vs) rest = omega arith
value_low (object ms) rest = omega arith

-- the empty list of bytes is below those of every value
pub below_value : (v : Value) (rest : List ℕ) → bytes_order [] (value_before v rest) ≡ Less
below_value null rest = refl
below_value (flag false) rest = refl
below_value (flag true) rest = refl
below_value (whole z) rest = refl
below_value (text s) rest = refl
below_value (list vs) rest = refl
below_value (object ms) rest = refl

-- the bytes of an edge determine the edge
same_edge : (e f : Edge) → edge_bytes e ≡ edge_bytes f → e ≡ f
same_edge Before Before h = refl
same_edge After After h = refl
same_edge Before After h = absurd cc
same_edge After Before h = absurd cc

-- the bytes of an edge are not those of a value with what follows it
no_column : (e : Edge) (w : Value) (rest : List ℕ) → edge_bytes e ≡ value_before w rest → ⊥
no_column Before w rest h = let e : Equal ≡ Less = ap (bytes_order []) h ∙ below_value w rest in absurd cc
no_column After w rest h = let low = subst BeginsLow (sym h) (value_low w rest) in omega (arith, low)

one_end : (e f : Edge) (vs ws : Items) → AreStored vs → AreStored ws → columns_before vs (edge_bytes e) ≡ columns_before ws (edge_bytes f) → (e ≡ f) × (vs ≡ ws)
one_end e f no_items no_items g h k = (same_edge e f k, refl)
one_end e f no_items (item w ws) g h k = absurd (no_column e w (columns_before ws (edge_bytes f)) k)
one_end e f (item v vs) no_items g h k = absurd (no_column f v (columns_before vs (edge_bytes e)) (sym k))
one_end e f (item v vs) (item w ws) g h k =
    let p = one_value v w (columns_before vs (edge_bytes e)) (columns_before ws (edge_bytes f)) g.0 h.0 k in
    let q = one_end e f vs ws g.1 h.1 p.1 in
    (q.0, ap₂ item p.0 q.1)

pub one_bound : (bytes : List ℕ) (a b : Edge × Items) → IsRowBound a.0 bytes a.1 → IsRowBound b.0 bytes b.1 → a ≡ b
one_bound bytes a b f g = let p = one_end a.0 b.0 a.1 b.1 f.0 g.0 (sym f.1 ∙ g.1) in ap₂ (λ e vs. (e, vs)) p.0 p.1

pub one_key : (bytes : List ℕ) (a b : Items) → IsKey bytes a → IsKey bytes b → a ≡ b
one_key bytes a b f g = (one_end Before Before a b f.0 g.0 (sym f.1 ∙ g.1)).1

-- ---- one row, one key, one bound

-- two parts of bytes are those of at most one row
pub RowOf-prop : (parts : List ℕ × List ℕ) → IsProp (RowOf parts)
RowOf-prop parts = λ x y. Σ_prop_path (IsRow-prop parts) (one_row_of_parts parts x.0 y.0 x.1 y.1)

-- bytes are those of at most one key
pub KeyOf-prop : (bytes : List ℕ) → IsProp (KeyOf bytes)
KeyOf-prop bytes = λ x y. Σ_prop_path (IsKey-prop bytes) (one_key bytes x.0 y.0 x.1 y.1)

-- bytes are those of at most one bound
pub BoundOf-prop : (bytes : List ℕ) → IsProp (BoundOf bytes)
BoundOf-prop bytes = λ x y. Σ_prop_path (IsRowBound-prop bytes) (one_bound bytes x.0 y.0 x.1 y.1)

-- ---- a ghost field holds the only row, key or bound that its bytes stand for

pub the_row : (parts : List ℕ × List ℕ) (kept : RowOf parts) (row : RowValue) → IsRow parts row → kept.0 ≡ row
the_row parts kept row h = one_row_of_parts parts kept.0 row kept.1 h

pub the_key : (bytes : List ℕ) (kept : KeyOf bytes) (key : Items) → IsKey bytes key → kept.0 ≡ key
the_key bytes kept key h = one_key bytes kept.0 key kept.1 h

pub the_bound : (bytes : List ℕ) (kept : BoundOf bytes) (place : Edge × Items) → IsRowBound place.0 bytes place.1 → kept.0 ≡ place
the_bound bytes kept place h = one_bound bytes kept.0 place kept.1 h
