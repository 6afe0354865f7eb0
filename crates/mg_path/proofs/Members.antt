-- Placing a part under a name among members.
use Rattle.std.proofs.Common.{◌≡◌, ℕ, List, [], ◌∷◌, String, Global, Bool, Some, None, option_map, string_bytes, string_cmp, nat_cmp, Ordering, Less, Equal, Greater, refl, ap, ◌∙◌, sym}
use Rattle.std.specs.Option.{unwrap_or}
use Rattle.std.specs.Map.{set_value, lookup, keys_of}
use Rattle.std.specs.List.{AllByRecursion}
use Rattle.std.specs.List.Sorted.{IsStrictlySortedBy}
use Rattle.std.specs.BTreeMap.{is_at, insert_entry}
use Rattle.std.specs.Cmp.Lexicographic.{slice_cmp}
use Rattle.std.proofs.lemmas.Cmp.{nat_list_cmp_total}
use Rattle.mg_value.specs.Value as value
use Rattle.mg_value.specs.Value.{Value, Members, put, get_member}
use Rattle.mg_value.specs.View.{view, members_view}
use Rattle.mg_value.specs.declared.value.Json.{Json}
use Rattle.mg_value.proofs.Views.{Entry, members_view-insert_entry}
use Rattle.mg_value.proofs.Lookup.{view-lookup}
use Rattle.mg_path.specs.Part.{placed}

-- whether a map's key is this name
abbrev pub at_name : List ℕ → String Global → Bool
at_name name = is_at (λ k. slice_cmp nat_cmp name (string_bytes k))

-- a name below the first is not among names in order
nothing_above : (name first : List ℕ) (es : List Entry) → slice_cmp nat_cmp name first ≡ Less → AllByRecursion (λ y. slice_cmp nat_cmp first (string_bytes y) ≡ Less) (keys_of es)
    → lookup (at_name name) es ≡ None
nothing_above name first [] below above = refl
nothing_above name first (e ∷ es) below above =
    let less : slice_cmp nat_cmp name (string_bytes e.0) ≡ Less = nat_list_cmp_total.trans name first (string_bytes e.0) below above.0 in
    rw less (nothing_above name first es below above.1)

put_there : (o : Ordering) (name : List ℕ) (e : Entry) (es : List Entry) (old new : Json) → slice_cmp nat_cmp name (string_bytes e.0) ≡ o
    → IsStrictlySortedBy string_cmp (keys_of (e ∷ es)) → lookup (at_name name) (e ∷ es) ≡ Some old
    → (lookup (at_name name) es ≡ Some old → members_view (set_value (at_name name) es new) ≡ put name (view new) (members_view es))
    → members_view (set_value (at_name name) (e ∷ es) new) ≡ put name (view new) (members_view (e ∷ es))
unfolding IsStrictlySortedBy
put_there Less name e es old new o sorted is rest = absurd (cc (nothing_above name (string_bytes e.0) es o sorted.0, rw o at is))
put_there Equal name e es old new o sorted is rest = rw o refl
put_there Greater name e es old new o sorted is rest = rw o (ap (value.member (string_bytes e.0) (view e.1)) (rest (rw o at is)))

-- overwriting the value of a name that is there is `put`
pub set_value-put : (name : List ℕ) (es : List Entry) (old new : Json) → IsStrictlySortedBy string_cmp (keys_of es) → lookup (at_name name) es ≡ Some old
    → members_view (set_value (at_name name) es new) ≡ put name (view new) (members_view es)
unfolding IsStrictlySortedBy
set_value-put name [] old new sorted is = cc
set_value-put name (e ∷ es) old new sorted is =
    put_there (slice_cmp nat_cmp name (string_bytes e.0)) name e es old new refl sorted is (λ there. set_value-put name es old new sorted.1 there)

-- the value at the name, or the empty object where there is none
there-some : (name : List ℕ) (es : List Entry) (old : Json) → lookup (at_name name) es ≡ Some old → unwrap_or (get_member name (members_view es)) (value.object value.no_members) ≡ view old
there-some name es old is = ap (λ o. unwrap_or o (value.object value.no_members)) (sym (view-lookup name es) ∙ ap (option_map view) is)

there-none : (name : List ℕ) (es : List Entry) → lookup (at_name name) es ≡ None → unwrap_or (get_member name (members_view es)) (value.object value.no_members) ≡ value.object value.no_members
there-none name es is = ap (λ o. unwrap_or o (value.object value.no_members)) (sym (view-lookup name es) ∙ ap (option_map view) is)

-- the part is placed within the value at the name
pub placed-there : (name : List ℕ) (deeper : List (List ℕ)) (part : Value) (es after : List Entry) (old new : Json)
    → view new ≡ placed deeper part (view old) → IsStrictlySortedBy string_cmp (keys_of es) → lookup (at_name name) es ≡ Some old → after ≡ set_value (at_name name) es new
    → value.object (members_view after) ≡ placed (name ∷ deeper) part (value.object (members_view es))
placed-there name deeper part es after old new h sorted is e =
    ap value.object (ap members_view e ∙ set_value-put name es old new sorted is ∙ ap (λ v. put name v (members_view es)) (h ∙ ap (placed deeper part) (sym (there-some name es old is))))

-- the part is placed at a new name
pub placed-new : (name : List ℕ) (deeper : List (List ℕ)) (part : Value) (es after : List Entry) (key : String Global) (new : Json)
    → view new ≡ placed deeper part (value.object value.no_members) → lookup (at_name name) es ≡ None → string_bytes key ≡ name → after ≡ insert_entry string_cmp es key new
    → value.object (members_view after) ≡ placed (name ∷ deeper) part (value.object (members_view es))
placed-new name deeper part es after key new h is same e =
    ap value.object
    (ap members_view e ∙ members_view-insert_entry es key new ∙ ap (λ k. put k (view new) (members_view es)) same
    ∙ ap (λ v. put name v (members_view es)) (h ∙ ap (placed deeper part) (sym (there-none name es is))))
