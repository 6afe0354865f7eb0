-- Data that has a value, one item or member at a time.
use Rattle.std.proofs.Common.{◌≡◌, ℕ, List, [], ◌∷◌, ◌++◌, string_bytes, Option, Some, None, option_map, option_and_then, Ordering, Less, Equal, Greater, nat_cmp, refl, ap, ◌∙◌}
use Rattle.std.specs.Cmp.Lexicographic.{slice_cmp}
use Rattle.std.specs.Ordering.{match_ordering}
use Rattle.serde_json.specs.Data as parsed
use Rattle.serde_json.specs.Data.{Data}
use Rattle.serde_json.specs.View.{view as data_view, items_view as data_items_view, members_view as data_members_view}
use Rattle.serde_json.specs.declared.value.Value.{Value as Parsed}
use Rattle.serde_json.proofs.Views.{Entry as ParsedEntry}
use Rattle.mg_value.specs.Value.{Value, Items, no_items, item, Members, no_members, member, put}
use Rattle.mg_face.specs.Numbers.{value_of, value_items, value_members}
use Rattle.mg_value.specs.View.{view, items_view}
use Rattle.mg_value.specs.declared.value.Json.{Json}

-- the items, with v at the end
abbrev pub after : Items → Value → Items
after no_items v = item v no_items
after (item w vs) v = item w (after vs v)

pub items_view-push : (vs : List Json) (v : Json) → items_view (vs ++ v ∷ []) ≡ after (items_view vs) (view v)
items_view-push [] v = refl
items_view-push (w ∷ vs) v = ap (item (view w)) (items_view-push vs v)

one_more : (o : Option Value) (r : Option Items) (q : Option Value)
    → option_and_then (λ w. option_map (item w) (option_and_then (λ vs. option_map (after vs) q) r)) o ≡ option_and_then (λ vs. option_map (after vs) q) (option_and_then (λ w. option_map (item w) r) o)
one_more None r q = refl
one_more (Some w) None q = refl
one_more (Some w) (Some vs) None = refl
one_more (Some w) (Some vs) (Some v) = refl

last_one : (q : Option Value) → option_and_then (λ v. option_map (item v) (Some no_items)) q ≡ option_map (after no_items) q
last_one None = refl
last_one (Some v) = refl

value_items-push_if : (ds : List Parsed) (d : Parsed) → value_items (data_items_view (ds ++ d ∷ [])) ≡ option_and_then (λ vs. option_map (after vs) (value_of (data_view d))) (value_items (data_items_view ds))
value_items-push_if [] d = last_one (value_of (data_view d))
value_items-push_if (x ∷ ds) d =
    ap (λ r. option_and_then (λ w. option_map (item w) r) (value_of (data_view x))) (value_items-push_if ds d) ∙ one_more (value_of (data_view x)) (value_items (data_items_view ds)) (value_of (data_view d))

pub value_items-push : (ds : List Parsed) (d : Parsed) (vs : List Json) (v : Json) → value_items (data_items_view ds) ≡ Some (items_view vs) → value_of (data_view d) ≡ Some (view v)
    → value_items (data_items_view (ds ++ d ∷ [])) ≡ Some (items_view (vs ++ v ∷ []))
value_items-push ds d vs v all one = value_items-push_if ds d ∙ rw (all, one, items_view-push)

nothing_more : (o : Option Value) → option_and_then (λ w. option_map (item w) None) o ≡ None
nothing_more None = refl
nothing_more (Some w) = refl

pub value_items-refused : (ds : List Parsed) (d : Parsed) (more : List Parsed) → value_of (data_view d) ≡ None → value_items (data_items_view (ds ++ d ∷ more)) ≡ None
value_items-refused [] d more e = rw e
value_items-refused (x ∷ ds) d more e = ap (λ r. option_and_then (λ w. option_map (item w) r) (value_of (data_view x))) (value_items-refused ds d more e) ∙ nothing_more (value_of (data_view x))

no_member : (k : List ℕ) (o : Option Value) → option_and_then (λ w. option_map (member k w) None) o ≡ None
no_member k None = refl
no_member k (Some w) = refl

pub value_members-refused : (es : List ParsedEntry) (e : ParsedEntry) (more : List ParsedEntry) → value_of (data_view e.1) ≡ None → value_members (data_members_view (es ++ e ∷ more)) ≡ None
value_members-refused [] e more h = rw h
value_members-refused (x ∷ es) e more h = rw (value_members-refused es e more h) (no_member (string_bytes x.0) (value_of (data_view x.1)))

split : (k : List ℕ) (o : Option Value) (r : Option Members) (ms : Members) → option_and_then (λ v. option_map (member k v) r) o ≡ Some ms → (v : Value) × (rest : Members) × (o ≡ Some v) × (r ≡ Some rest) × (member k v rest ≡ ms)
split k None r ms e = absurd cc
split k (Some v) None ms e = absurd cc
split k (Some v) (Some rest) ms e = (v, rest, refl, refl, cc)

put_at : (o : Ordering) (k l : List ℕ) (d e : Data) (v w : Value) (ds : parsed.Members) (ms : Members) → value_of d ≡ Some v → value_of e ≡ Some w → value_members ds ≡ Some ms → value_members (parsed.put k d ds) ≡ Some (put k v ms)
    → value_members (match_ordering o (parsed.member k d (parsed.member l e ds)) (parsed.member l d ds) (parsed.member l e (parsed.put k d ds))) ≡ Some (match_ordering o (member k v (member l w ms)) (member l v ms) (member l w (put k v ms)))
put_at Less k l d e v w ds ms f g h later = rw (f, g, h)
put_at Equal k l d e v w ds ms f g h later = rw (f, h)
put_at Greater k l d e v w ds ms f g h later = rw (g, later)

pub value_members-put : (k : List ℕ) (d : Data) (v : Value) (ds : parsed.Members) (ms : Members) → value_members ds ≡ Some ms → value_of d ≡ Some v → value_members (parsed.put k d ds) ≡ Some (put k v ms)
value_members-put k d v parsed.no_members ms all one = let none : no_members ≡ ms = cc in rw (one, ← none)
value_members-put k d v (parsed.member l e ds) ms all one =
    let s = split l (value_of e) (value_members ds) ms all in
    put_at (slice_cmp nat_cmp k l) k l d e v s.0 ds s.1 one s.2 s.3 (value_members-put k d v ds s.1 s.3 one) ∙ ap (λ m. Some (put k v m)) s.4
