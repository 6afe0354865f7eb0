-- Data all of whose numbers are whole, one item or member at a time.
use Rattle.std.proofs.Common.{◌≡◌, ℕ, List, [], ◌∷◌, ◌++◌, string_bytes, Option, Some, None, option_map, option_and_then, Ordering, Less, Equal, Greater, nat_cmp, refl, ap, ◌∙◌}
use Rattle.std.specs.Cmp.Lexicographic.{slice_cmp}
use Rattle.std.specs.Ordering.{match_ordering}
use Rattle.serde_json.specs.Data as parsed
use Rattle.serde_json.specs.Data.{Data}
use Rattle.serde_json.specs.View.{view as data_view, items_view as data_items_view, members_view as data_members_view}
use Rattle.serde_json.specs.declared.value.Value.{Value as Parsed}
use Rattle.serde_json.proofs.Views.{Entry as ParsedEntry}
use Rattle.mg_value.specs.Value.{Value, Items, no_items, item, Members, no_members, member, put}
use Rattle.mg_value.specs.Text.{whole_of, whole_items, whole_members}
use Rattle.mg_value.specs.View.{view, items_view}
use Rattle.mg_value.specs.declared.value.Json.{Json}

-- the items, with v at the end
abbrev pub after : Items → Value → Items
after no_items v = item v no_items
after (item w vs) v = item w (after vs v)

pub items_view-push : (vs : List Json) (v : Json) → items_view (vs ++ v ∷ []) ≡ after (items_view vs) (view v)
items_view-push [] v = refl
items_view-push (w ∷ vs) v = ap (item (view w)) (items_view-push vs v)

one_more : (o : Option Value) (r : Option Items) (q : Option Value)
    → option_and_then (λ w. option_map (item w) (option_and_then (λ vs. option_map (after vs) q) r)) o ≡ option_and_then (λ vs. option_map (after vs) q) (option_and_then (λ w. option_map (item w) r) o)
one_more None r q = refl
one_more (Some w) None q = refl
one_more (Some w) (Some vs) None = refl
one_more (Some w) (Some vs) (Some v) = refl

last_one : (q : Option Value) → option_and_then (λ v. option_map (item v) (Some no_items)) q ≡ option_map (after no_items) q
last_one None = refl
last_one (Some v) = refl

whole_items-push_if : (ds : List Parsed) (d : Parsed) → whole_items (data_items_view (ds ++ d ∷ [])) ≡ option_and_then (λ vs. option_map (after vs) (whole_of (data_view d))) (whole_items (data_items_view ds))
whole_items-push_if [] d = last_one (whole_of (data_view d))
whole_items-push_if (x ∷ ds) d =
    ap (λ r. option_and_then (λ w. option_map (item w) r) (whole_of (data_view x))) (whole_items-push_if ds d) ∙ one_more (whole_of (data_view x)) (whole_items (data_items_view ds)) (whole_of (data_view d))

pub whole_items-push : (ds : List Parsed) (d : Parsed) (vs : List Json) (v : Json) → whole_items (data_items_view ds) ≡ Some (items_view vs) → whole_of (data_view d) ≡ Some (view v)
    → whole_items (data_items_view (ds ++ d ∷ [])) ≡ Some (items_view (vs ++ v ∷ []))
whole_items-push ds d vs v all one = whole_items-push_if ds d ∙ rw (all, one, items_view-push)

nothing_more : (o : Option Value) → option_and_then (λ w. option_map (item w) None) o ≡ None
nothing_more None = refl
nothing_more (Some w) = refl

pub whole_items-refused : (ds : List Parsed) (d : Parsed) (more : List Parsed) → whole_of (data_view d) ≡ None → whole_items (data_items_view (ds ++ d ∷ more)) ≡ None
whole_items-refused [] d more e = rw e
whole_items-refused (x ∷ ds) d more e = ap (λ r. option_and_then (λ w. option_map (item w) r) (whole_of (data_view x))) (whole_items-refused ds d more e) ∙ nothing_more (whole_of (data_view x))

no_member : (k : List ℕ) (o : Option Value) → option_and_then (λ w. option_map (member k w) None) o ≡ None
no_member k None = refl
no_member k (Some w) = refl

pub whole_members-refused : (es : List ParsedEntry) (e : ParsedEntry) (more : List ParsedEntry) → whole_of (data_view e.1) ≡ None → whole_members (data_members_view (es ++ e ∷ more)) ≡ None
whole_members-refused [] e more h = rw h
whole_members-refused (x ∷ es) e more h = rw (whole_members-refused es e more h) (no_member (string_bytes x.0) (whole_of (data_view x.1)))

split : (k : List ℕ) (o : Option Value) (r : Option Members) (ms : Members) → option_and_then (λ v. option_map (member k v) r) o ≡ Some ms → (v : Value) × (rest : Members) × (o ≡ Some v) × (r ≡ Some rest) × (member k v rest ≡ ms)
split k None r ms e = absurd cc
split k (Some v) None ms e = absurd cc
split k (Some v) (Some rest) ms e = (v, rest, refl, refl, cc)

put_at : (o : Ordering) (k l : List ℕ) (d e : Data) (v w : Value) (ds : parsed.Members) (ms : Members) → whole_of d ≡ Some v → whole_of e ≡ Some w → whole_members ds ≡ Some ms → whole_members (parsed.put k d ds) ≡ Some (put k v ms)
    → whole_members (match_ordering o (parsed.member k d (parsed.member l e ds)) (parsed.member l d ds) (parsed.member l e (parsed.put k d ds))) ≡ Some (match_ordering o (member k v (member l w ms)) (member l v ms) (member l w (put k v ms)))
put_at Less k l d e v w ds ms f g h later = rw (f, g, h)
put_at Equal k l d e v w ds ms f g h later = rw (f, h)
put_at Greater k l d e v w ds ms f g h later = rw (g, later)

pub whole_members-put : (k : List ℕ) (d : Data) (v : Value) (ds : parsed.Members) (ms : Members) → whole_members ds ≡ Some ms → whole_of d ≡ Some v → whole_members (parsed.put k d ds) ≡ Some (put k v ms)
whole_members-put k d v parsed.no_members ms all one = let none : no_members ≡ ms = cc in rw (one, ← none)
whole_members-put k d v (parsed.member l e ds) ms all one =
    let s = split l (whole_of e) (whole_members ds) ms all in
    put_at (slice_cmp nat_cmp k l) k l d e v s.0 ds s.1 one s.2 s.3 (whole_members-put k d v ds s.1 s.3 one) ∙ ap (λ m. Some (put k v m)) s.4
