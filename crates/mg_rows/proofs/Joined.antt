-- The bytes of values, keys and rows, one after another.
use Rattle.std.proofs.Common.{Result, Ok, Err, OnErr, ◌≡◌, ℕ, zero, suc, ◌+◌, ◌/◌, ◌%◌, ◌<◌, ◌≤◌, arith, List, [], ◌∷◌, ◌++◌, drop, get_or, length, IsUtf8, Ordering, true, false, refl, sym, ap, ◌∙◌, append_assoc}
use Rattle.std.proofs.lemmas.List.{drop_more}
use Rattle.mg_value.specs.Value.{Value, null, flag, whole, text, list, object, Items, no_items, item, Members, no_members, member}
use Rattle.mg_value.specs.View.{view, items_view}
use Rattle.mg_value.specs.declared.value.Json.{Json}
use Rattle.mg_collate.specs.Row.{RowValue}
use Rattle.mg_rows.specs.Bytes.{bytes_order, big_endian, sign_turned, text_before, value_before, items_before, members_before, columns_before, row_bytes}
use Rattle.mg_value.specs.Stored.{IsStored, AreStored}
use Rattle.mg_rows.specs.Stored.{IsKey, IsRow}
use Rattle.mg_rows.specs.RowBound.{IsRowBound, edge_bytes}
use Rattle.mg_rows.specs.Laws.{joined_items}
use Rattle.mg_rows.specs.declared.edge.Edge.{Edge}

-- ---- what comes after can be appended

high_append : (k n : ℕ) (s t : List ℕ) → big_endian k n (s ++ t) ≡ big_endian k n s ++ t
high_append zero n s t = refl
high_append (suc k) n s t = high_append k (n / 256) (n % 256 ∷ s) t

pub text_append : (x s t : List ℕ) → text_before x (s ++ t) ≡ text_before x s ++ t
text_append [] s t = refl
text_append (b ∷ x) s t = ap (λ y. suc b ∷ y) (text_append x s t)

mutual
  pub value_append : (v : Value) (s t : List ℕ) → value_before v (s ++ t) ≡ value_before v s ++ t
  value_append null s t = refl
  value_append (flag false) s t = refl
  value_append (flag true) s t = refl
  value_append (whole z) s t = ap (λ y. 4 ∷ y) (high_append 8 (sign_turned z) s t)
  value_append (text x) s t = ap (λ y. 5 ∷ y) (text_append x s t)
  value_append (list vs) s t = ap (λ y. 6 ∷ y) (items_append vs s t)
  value_append (object ms) s t = ap (λ y. 7 ∷ y) (members_append ms s t)

  pub items_append : (vs : Items) (s t : List ℕ) → items_before vs (s ++ t) ≡ items_before vs s ++ t
  items_append no_items s t = refl
  items_append (item v vs) s t = ap (value_before v) (items_append vs s t) ∙ value_append v (items_before vs s) t

  pub members_append : (ms : Members) (s t : List ℕ) → members_before ms (s ++ t) ≡ members_before ms s ++ t
  members_append no_members s t = refl
  members_append (member k v ms) s t =
      ap (λ y. 5 ∷ y) (ap (text_before k) (ap (value_before v) (members_append ms s t) ∙ value_append v (members_before ms s) t) ∙ text_append k (value_before v (members_before ms s)) t)

pub columns_append : (vs : Items) (s t : List ℕ) → columns_before vs (s ++ t) ≡ columns_before vs s ++ t
columns_append no_items s t = refl
columns_append (item v vs) s t = ap (value_before v) (columns_append vs s t) ∙ value_append v (columns_before vs s) t

-- ---- one turn of a loop: the bytes so far and those of what is left are all the bytes to write

turn : (v : Value) (front out rest : List ℕ) → front ≡ out ++ value_before v rest → front ≡ (out ++ value_before v []) ++ rest
turn v front out rest e = e ∙ ap (λ y. out ++ y) (value_append v [] rest) ∙ sym (append_assoc out (value_before v []) rest)

pub items_turn : (v : Value) (rest : Items) (front out new : List ℕ) → new ≡ out ++ value_before v [] → front ≡ out ++ items_before (item v rest) []
    → front ≡ new ++ items_before rest []
items_turn v rest front out new e h = turn v front out (items_before rest []) h ∙ ap (λ y. y ++ items_before rest []) (sym e)

pub columns_turn : (all : List Json) (i : ℕ) (v : Json) (front out new : List ℕ) → i < length all → v ≡ get_or all i v → new ≡ out ++ value_before (view v) []
    → front ≡ out ++ columns_before (items_view (drop i all)) [] → front ≡ new ++ columns_before (items_view (drop (i + 1) all)) []
columns_turn all i v front out new low at e h =
    turn (view v) front out _ (h ∙ ap (λ vs. out ++ columns_before (items_view vs) []) (drop_more all i v low ∙ ap (λ x. x ∷ drop (i + 1) all) (sym at)))
    ∙ ap (λ y. y ++ columns_before (items_view (drop (i + 1) all)) []) (sym e)

pub drop_cons_at : (all : List Json) (i : ℕ) (v : Json) → i < length all → v ≡ get_or all i v → drop i all ≡ v ∷ drop (i + 1) all
drop_cons_at all i v low at = drop_more all i v low ∙ ap (λ x. x ∷ drop (i + 1) all) (sym at)

past_end : (s : List ℕ) (i : ℕ) → length s ≤ i → drop i s ≡ []
past_end [] zero h = refl
past_end [] (suc i) h = refl
past_end (b ∷ s) zero h = absurd (omega (arith, h))
past_end (b ∷ s) (suc i) h = past_end s i (omega (arith, h))

pub text_end : (s : List ℕ) (i : ℕ) (front out : List ℕ) → length s ≤ i → front ++ text_before s [] ≡ out ++ text_before (drop i s) [] → front ++ text_before s [] ≡ out ++ 0 ∷ []
text_end s i front out last h = h ∙ ap (λ x. out ++ text_before x []) (past_end s i last)

pub members_turn : (k : List ℕ) (v : Value) (ms : Members) (front out named new : List ℕ) → named ≡ out ++ 5 ∷ text_before k [] → new ≡ named ++ value_before v []
    → front ≡ out ++ members_before (member k v ms) [] → front ≡ new ++ members_before ms []
members_turn k v ms front out named new e f h =
    h ∙ ap (λ y. out ++ 5 ∷ y) (text_append k [] (value_before v (members_before ms []))) ∙ sym (append_assoc out (5 ∷ text_before k []) _) ∙ ap (λ y. y ++ value_before v (members_before ms [])) (sym e)
    ∙ ap (λ y. named ++ y) (value_append v [] (members_before ms [])) ∙ sym (append_assoc named (value_before v []) _) ∙ ap (λ y. y ++ members_before ms []) (sym f)

-- ---- keys and bounds

pub on_err_when : {T E P : Type 0} (r : Result T E) → P → OnErr r P
on_err_when (Ok x) p = tt
on_err_when (Err e) p = p

-- the bytes of a key with one more value
columns_more : (vs : Items) (v : Value) (rest : List ℕ) → columns_before (joined_items vs (item v no_items)) rest ≡ columns_before vs (value_before v rest)
columns_more no_items v rest = refl
columns_more (item w vs) v rest = ap (value_before w) (columns_more vs v rest)

more_stored : (vs : Items) (v : Value) → AreStored vs → IsStored v → AreStored (joined_items vs (item v no_items))
more_stored no_items v h k = (k, tt)
more_stored (item w vs) v h k = (h.0, more_stored vs v h.1 k)

pub made_key : (old new : List ℕ) (key : Items) (v : Value) → IsKey old key → IsStored v → new ≡ old ++ value_before v [] → IsKey new (joined_items key (item v no_items))
made_key old new key v h k e = (more_stored key v h.0 k, e ∙ ap (λ s. s ++ value_before v []) h.1 ∙ sym (columns_append key [] (value_before v [])) ∙ sym (columns_more key v []))

pub made_bound : (bytes column_bytes : List ℕ) (edge : Edge) (key : Items) → IsKey column_bytes key → bytes ≡ column_bytes ++ edge_bytes edge → IsRowBound edge bytes key
made_bound bytes column_bytes edge key h e = (h.0, e ∙ ap (λ s. s ++ edge_bytes edge) h.1 ∙ sym (columns_append key [] (edge_bytes edge)))

-- ---- rows

pub row_joined : (x : List ℕ) (p : List ℕ × List ℕ) (a : RowValue) → x ≡ p.0 ++ p.1 → IsRow p a → x ≡ row_bytes a
row_joined x p a e h = e ∙ ap (λ (q : List ℕ × List ℕ). q.0 ++ q.1) h.1 ∙ sym (items_append a.0 [] a.1)

pub rows_bytes : (x y : List ℕ) (a b : RowValue) (o : Ordering) → o ≡ bytes_order x y → x ≡ row_bytes a → y ≡ row_bytes b → o ≡ bytes_order (row_bytes a) (row_bytes b)
rows_bytes x y a b o h e f = h ∙ ap (λ s. bytes_order s y) e ∙ ap (bytes_order (row_bytes a)) f

-- the bytes of a key's values, with the byte that ends the key, are the bytes of its items
columns_end : (vs : Items) (rest : List ℕ) → items_before vs rest ≡ columns_before vs (0 ∷ rest)
columns_end no_items rest = refl
columns_end (item v vs) rest = ap (value_before v) (columns_end vs rest)

-- the bytes of a key's values with the byte that ends the key, and those of an id, are the parts of a row
pub made_row : (parts : List ℕ × List ℕ) (column_bytes : List ℕ) (key : Items) (id : List ℕ) → IsKey column_bytes key → IsUtf8 id → parts ≡ (column_bytes ++ 0 ∷ [], id) → IsRow parts (key, id)
made_row parts column_bytes key id h utf8 split = (
  (h.0, utf8),
  split ∙ ap (λ x. (x, id)) (ap (λ x. x ++ 0 ∷ []) h.1 ∙ sym (columns_append key [] (0 ∷ [])) ∙ sym (columns_end key [])),
)
