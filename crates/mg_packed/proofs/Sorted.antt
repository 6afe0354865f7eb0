-- Members that are sorted by name have the data of the text's order, and parts that match make the whole.
use Rattle.std.proofs.Common.{◌≡◌, ℕ, List, [], ◌∷◌, ◌++◌, IsUtf8, Option, Some, None, option_map, option_and_then, Ordering, Less, Equal, Greater, is_eq, cond, nat_cmp, Bor, Global, Result, Ok, Err, OnOk, refl, sym, ap, ap₂, ◌∙◌, subst}
use Rattle.std.specs.BTreeMap.{insert_entry, is_at}
use Rattle.std.specs.Cmp.Lexicographic.{slice_cmp}
use Rattle.std.specs.List.{AllByRecursion}
use Rattle.std.specs.List.Sorted.{IsStrictlySortedBy}
use Rattle.std.specs.Map.{keys_of, lookup}
use Rattle.std.specs.Ordering.{match_ordering}
use Rattle.json.specs.Value.{value_view, items_view as tree_items}
use Rattle.json.specs.declared.value.Value.{Value as Tree}
use Rattle.serde_json.specs.Data as parsed
use Rattle.serde_json.specs.Data.{Data}
use Rattle.serde_json.specs.Read.{of_json}
use Rattle.mg_value.specs.Borrowed.{IsTreeOf, AreItemTreesOf}
use Rattle.mg_value.specs.Held.{AllAfter}
use Rattle.mg_value.specs.Stored.{IsStored, AreStored, MembersAreStored}
use Rattle.mg_value.specs.Text.{whole_members}
use Rattle.mg_value.specs.Value.{Value, text, Items, no_items, item, Members, no_members, member}
use Rattle.mg_packed.specs.Tables.{item_pieces, member_pieces}
use Rattle.mg_packed.proofs.Parts.{piece_of}
use Rattle.mg_packed.specs.Sorted.{TreeMember, by_name, Ascend, sorted_data, ItemsMatch, MembersMatch}

split : (k : List ℕ) (o : Option Data) (r : Option parsed.Members) (ds : parsed.Members) → option_and_then (λ d. option_map (parsed.member k d) r) o ≡ Some ds
    → (d : Data) × (rest : parsed.Members) × (o ≡ Some d) × (r ≡ Some rest) × (parsed.member k d rest ≡ ds)
split k None r ds e = absurd cc
split k (Some d) None ds e = absurd cc
split k (Some d) (Some rest) ds e = (d, rest, refl, refl, cc)

-- a new name among the sorted ones is a member put in
Put : List TreeMember → Bor (List ℕ) → Bor (Tree Global) → parsed.Members → Type 0
Put es k t all = (ds : parsed.Members) × (d : Data) × (sorted_data es ≡ Some ds) × (of_json (value_view t.now) ≡ Some d) × (parsed.put k.now d ds ≡ all)

put_by : (o : Ordering) (es : List TreeMember) (e : TreeMember) (k : Bor (List ℕ)) (t : Bor (Tree Global)) (all : parsed.Members) → slice_cmp nat_cmp k.now e.0.now ≡ o
    → cond (is_eq o) (Some e.1) (lookup (is_at (by_name k)) es) ≡ None
    → ((more : parsed.Members) → lookup (is_at (by_name k)) es ≡ None → sorted_data (insert_entry by_name es k t) ≡ Some more → Put es k t more)
    → sorted_data (match_ordering o ((k, t) ∷ e ∷ es) ((e.0, t) ∷ es) (e ∷ insert_entry by_name es k t)) ≡ Some all → Put (e ∷ es) k t all
unfolding Put
put_by Less es e k t all o none rest is =
    let s = split k.now (of_json (value_view t.now)) (sorted_data (e ∷ es)) all is in
    let u = split e.0.now (of_json (value_view e.1.now)) (sorted_data es) s.1 s.3 in
    (s.1, s.0, s.3, s.2, ap (parsed.put k.now s.0) (sym u.4) ∙ ap (λ x. match_ordering x (parsed.member k.now s.0 (parsed.member e.0.now u.0 u.1)) (parsed.member e.0.now s.0 u.1) (parsed.member e.0.now u.0 (parsed.put k.now s.0 u.1))) o ∙ ap (parsed.member k.now s.0) u.4 ∙ s.4)
put_by Equal es e k t all o none rest is = absurd cc
put_by Greater es e k t all o none rest is =
    let s = split e.0.now (of_json (value_view e.1.now)) (sorted_data (insert_entry by_name es k t)) all is in
    let p = rest s.1 none s.3 in (
      parsed.member e.0.now s.0 p.0,
      p.1,
      ap₂ (λ o r. option_and_then (λ d. option_map (parsed.member e.0.now d) r) o) s.2 p.2,
      p.3,
      ap (λ x. match_ordering x (parsed.member k.now p.1 (parsed.member e.0.now s.0 p.0)) (parsed.member e.0.now p.1 p.0) (parsed.member e.0.now s.0 (parsed.put k.now p.1 p.0))) o ∙ ap (parsed.member e.0.now s.0) p.4 ∙ s.4,
    )

pub sorted_put : (es : List TreeMember) (k : Bor (List ℕ)) (t : Bor (Tree Global)) (all : parsed.Members) → lookup (is_at (by_name k)) es ≡ None → sorted_data (insert_entry by_name es k t) ≡ Some all
    → (ds : parsed.Members) × (d : Data) × (sorted_data es ≡ Some ds) × (of_json (value_view t.now) ≡ Some d) × (parsed.put k.now d ds ≡ all)
unfolding Put
sorted_put [] k t all none is =
    let s = split k.now (of_json (value_view t.now)) (Some parsed.no_members) all is in
    (parsed.no_members, s.0, refl, s.2, let last : parsed.no_members ≡ s.1 = cc in ap (parsed.member k.now s.0) last ∙ s.4)
sorted_put (e ∷ es) k t all none is = put_by (slice_cmp nat_cmp k.now e.0.now) es e k t all refl none (λ more. sorted_put es k t more) is

-- ---- one more part at the end

abbrev pub items_with : Items → Value → Items
items_with no_items v = item v no_items
items_with (item w vs) v = item w (items_with vs v)

abbrev pub members_with : Members → List ℕ → Value → Members
members_with no_members k v = member k v no_members
members_with (member l w ms) k v = member l w (members_with ms k v)

pub pieces-items_with : (vs : Items) (v : Value) → item_pieces (items_with vs v) ≡ item_pieces vs ++ piece_of 44 v ∷ []
pieces-items_with no_items v = refl
pieces-items_with (item w vs) v = ap (λ ps. piece_of 44 w ∷ ps) (pieces-items_with vs v)

pub pieces-members_with : (ms : Members) (k : List ℕ) (v : Value) → member_pieces (members_with ms k v) ≡ member_pieces ms ++ piece_of 44 (text k) ∷ piece_of 58 v ∷ []
pieces-members_with no_members k v = refl
pieces-members_with (member l w ms) k v = ap (λ ps. piece_of 44 (text l) ∷ piece_of 58 w ∷ ps) (pieces-members_with ms k v)

pub items_match-push : (ts : List (Tree Global)) (t : Tree Global) (vs : Items) (v : Value) → ItemsMatch ts vs → IsTreeOf (value_view t) v → IsStored v → ItemsMatch (ts ++ t ∷ []) (items_with vs v)
items_match-push [] t no_items v h whole stored = (whole, stored, tt)
items_match-push [] t (item w vs) v h whole stored = absurd h
items_match-push (u ∷ ts) t no_items v h whole stored = absurd h
items_match-push (u ∷ ts) t (item w vs) v h whole stored = (h.0, h.1, items_match-push ts t vs v h.2 whole stored)

pub members_match-push : (es : List TreeMember) (e : TreeMember) (ms : Members) (v : Value) → MembersMatch es ms → IsUtf8 e.0.now → IsTreeOf (value_view e.1.now) v → IsStored v → MembersMatch (es ++ e ∷ []) (members_with ms e.0.now v)
members_match-push [] e no_members v h utf8 whole stored = (refl, utf8, whole, stored, tt)
members_match-push [] e (member l w ms) v h utf8 whole stored = absurd h
members_match-push (u ∷ es) e no_members v h utf8 whole stored = absurd h
members_match-push (u ∷ es) e (member l w ms) v h utf8 whole stored = (h.0, h.1, h.2, h.3, members_match-push es e ms v h.4 utf8 whole stored)

-- ---- parts that match make the whole

pub items_whole : (ts : List (Tree Global)) (vs : Items) → ItemsMatch ts vs → AreItemTreesOf (tree_items ts) vs
items_whole [] no_items h = (parsed.no_items, refl, refl)
items_whole [] (item w vs) h = absurd h
items_whole (t ∷ ts) no_items h = absurd h
items_whole (t ∷ ts) (item w vs) h = let r = items_whole ts vs h.2 in (parsed.item h.0.0 r.0, rw (h.0.1, r.1) refl, rw (h.0.2, r.2) refl)

pub items_stored : (ts : List (Tree Global)) (vs : Items) → ItemsMatch ts vs → AreStored vs
items_stored [] no_items h = tt
items_stored [] (item w vs) h = absurd h
items_stored (t ∷ ts) no_items h = absurd h
items_stored (t ∷ ts) (item w vs) h = (h.1, items_stored ts vs h.2)

pub members_whole : (es : List TreeMember) (ms : Members) → MembersMatch es ms → (ds : parsed.Members) × (sorted_data es ≡ Some ds) × (whole_members ds ≡ Some ms)
members_whole [] no_members h = (parsed.no_members, refl, refl)
members_whole [] (member l w ms) h = absurd h
members_whole (e ∷ es) no_members h = absurd h
members_whole (e ∷ es) (member l w ms) h =
    let r = members_whole es ms h.4 in
    (parsed.member e.0.now h.2.0 r.0, rw (h.2.1, r.1) refl, rw (h.2.2, r.2) (ap (λ k. Some (member k w ms)) h.0))

all_after : (k : Bor (List ℕ)) (es : List TreeMember) (ms : Members) → AllByRecursion (λ y. by_name k y ≡ Less) (keys_of es) → MembersMatch es ms → AllAfter k.now ms
all_after k [] no_members a h = tt
all_after k [] (member l w ms) a h = absurd h
all_after k (e ∷ es) no_members a h = absurd h
all_after k (e ∷ es) (member l w ms) a h = (ap (slice_cmp nat_cmp k.now) (sym h.0) ∙ a.0, all_after k es ms a.1 h.4)

pub members_stored : (es : List TreeMember) (ms : Members) → Ascend es → MembersMatch es ms → MembersAreStored ms
unfolding IsStrictlySortedBy
members_stored [] no_members a h = tt
members_stored [] (member l w ms) a h = absurd h
members_stored (e ∷ es) no_members a h = absurd h
members_stored (e ∷ es) (member l w ms) a h = (subst (λ k. AllAfter k ms) h.0 (all_after e.0 es ms a.0 h.4), h.1, h.3, members_stored es ms a.1 h.4)

-- ---- what a result says

pub weaker : {A E : Type 0} (P Q : Type 0) (r : Result A E) → (P → Q) → OnOk r P → OnOk r Q
weaker P Q (Ok u) step h = step h
weaker P Q (Err e) step h = tt

pub both_weaker : {A E : Type 0} (O P Q : Type 0) (r : Result A E) → (O → P → Q) → OnOk r O → OnOk r P → OnOk r Q
both_weaker O P Q (Ok u) step g h = step g h
both_weaker O P Q (Err e) step g h = tt
