-- The tokens that are written for a held value read back as that value.
use Rattle.std.proofs.Common.{◌≡◌, ℕ, suc, max, ◌≤◌, ◌<◌, ◌^◌, ℤ, pos, negsuc, List, [], ◌∷◌, ◌++◌, Some, option_map, option_and_then, String, Global, Less, Greater, string_bytes, string_cmp, nat_cmp, FitsSigned, w64, refl, sym, ap, ap₂, ◌∙◌, arith, append-nil, lt-ltb}
use Rattle.std.proofs.lemmas.Cmp.{nat_list_cmp_total}
use Rattle.std.specs.Cmp.Lexicographic.{slice_cmp}
use Rattle.std.specs.List.{AllByRecursion}
use Rattle.std.specs.List.Sorted.{IsStrictlySortedBy}
use Rattle.std.specs.Map.{keys_of}
use Rattle.std.specs.Ordering.{ordering_reverse}
use Rattle.std.specs.Prelude.{⊤}
use Rattle.std.specs.Fmt.{signed_decimal}
use Rattle.json.specs.Json as json
use Rattle.json.specs.Lex.{tokens}
use Rattle.json.specs.Tree as tree
use Rattle.json.proofs.Printed.Trees.{value-json_tokens}
use Rattle.serde_json.specs.Data as parsed
use Rattle.serde_json.specs.Find.{as_i64, of_integer}
use Rattle.serde_json.specs.Read.{read, number_of, of_json, of_items, of_members}
use Rattle.serde_json.specs.Written.{outline, items_outline, members_outline}
use Rattle.serde_json.proofs.Numbers.{number_of-decimal, number_of-negative}
use Rattle.mg_value.specs.Value.{Value, null, flag, whole, text, list, object, Items, no_items, item, Members, no_members, member, depth, items_depth, members_depth}
use Rattle.mg_value.specs.Text.{data_of, data_items, data_members, whole_of, whole_items, whole_members}
use Rattle.mg_value.specs.Held.{AllAfter, IsHeld, ItemsAreHeld, MembersAreHeld, tokens_of}
use Rattle.mg_value.specs.View.{members_view}
use Rattle.mg_value.proofs.Views.{Entry}

-- ---- the names of a map ascend

all_after : (k : String Global) (es : List Entry) → AllByRecursion (λ y. string_cmp k y ≡ Less) (keys_of es) → AllAfter (string_bytes k) (members_view es)
all_after k [] h = tt
all_after k (e ∷ es) h = (h.0, all_after k es h.1)

-- in a map, the names that follow a name are above it
pub above_middle : (done : List Entry) (e : Entry) (more : List Entry) → IsStrictlySortedBy string_cmp (keys_of (done ++ e ∷ more)) → AllAfter (string_bytes e.0) (members_view more)
unfolding IsStrictlySortedBy
above_middle [] e more h = all_after e.0 more h.0
above_middle (first ∷ done) e more h = above_middle done e more h.1

-- ---- members that are put in order stay in that order

abbrev joined : parsed.Members → parsed.Members → parsed.Members
joined parsed.no_members more = more
joined (parsed.member k d ms) more = parsed.member k d (joined ms more)

-- each name of the first comes before each of the second
abbrev AreBefore : parsed.Members → Members → Type 0
AreBefore parsed.no_members ms = ⊤
AreBefore (parsed.member k d found) ms = AllAfter k ms × AreBefore found ms

AreBefore-tail : (found : parsed.Members) (k : List ℕ) (v : Value) (ms : Members) → AreBefore found (member k v ms) → AreBefore found ms
AreBefore-tail parsed.no_members k v ms h = tt
AreBefore-tail (parsed.member l d found) k v ms h = (h.0.1, AreBefore-tail found k v ms h.1)

AreBefore-joined : (found : parsed.Members) (k : List ℕ) (d : parsed.Data) (ms : Members) → AreBefore found ms → AllAfter k ms → AreBefore (joined found (parsed.member k d parsed.no_members)) ms
AreBefore-joined parsed.no_members k d ms h above = (above, tt)
AreBefore-joined (parsed.member l e found) k d ms h above = (h.0, AreBefore-joined found k d ms h.1 above)

joined-last : (found : parsed.Members) (k : List ℕ) (d : parsed.Data) (more : parsed.Members) → joined (joined found (parsed.member k d parsed.no_members)) more ≡ joined found (parsed.member k d more)
joined-last parsed.no_members k d more = refl
joined-last (parsed.member l e found) k d more = ap (parsed.member l e) (joined-last found k d more)

joined-none : (found : parsed.Members) → joined found parsed.no_members ≡ found
joined-none parsed.no_members = refl
joined-none (parsed.member l e found) = ap (parsed.member l e) (joined-none found)

put-above : (found : parsed.Members) (k : List ℕ) (v : Value) (d : parsed.Data) (ms : Members) → AreBefore found (member k v ms) → parsed.put k d found ≡ joined found (parsed.member k d parsed.no_members)
put-above parsed.no_members k v d ms h = refl
put-above (parsed.member l e found) k v d ms h =
    let above : slice_cmp nat_cmp k l ≡ Greater = nat_list_cmp_total.antisymm k l ∙ ap ordering_reverse h.0.0 in
    rw above (ap (parsed.member l e) (put-above found k v d ms h.1))

-- ---- reading the tokens

number_of-signed_decimal : (z : ℤ) → FitsSigned w64 z → number_of (signed_decimal z) ≡ Some (of_integer z)
number_of-signed_decimal (pos n) fits = number_of-decimal n (grind arith)
number_of-signed_decimal (negsuc n) fits = number_of-negative n (grind arith)

as_i64-of_integer : (z : ℤ) → FitsSigned w64 z → as_i64 (of_integer z) ≡ Some z
as_i64-of_integer (pos n) fits = let small : n < 2 ^ 63 = grind arith in rw (lt-ltb _ _ small)
as_i64-of_integer (negsuc n) fits = refl

outline_number : (z : ℤ) → FitsSigned w64 z → of_json (outline (parsed.number (of_integer z))) ≡ Some (parsed.number (of_integer z))
outline_number (pos n) fits = ap (option_map parsed.number) (number_of-signed_decimal (pos n) fits)
outline_number (negsuc n) fits = ap (option_map parsed.number) (number_of-signed_decimal (negsuc n) fits)

mutual
  pub of_json-outline : (v : Value) → IsHeld v → of_json (outline (data_of v)) ≡ Some (data_of v)
  of_json-outline null h = refl
  of_json-outline (flag b) h = refl
  of_json-outline (whole z) h = outline_number z h
  of_json-outline (text s) h = refl
  of_json-outline (list vs) h = ap (option_map parsed.array) (of_items-outline vs h)
  of_json-outline (object ms) h = ap (option_map parsed.object) (of_members-outline ms parsed.no_members h tt)

  of_items-outline : (vs : Items) → ItemsAreHeld vs → of_items (items_outline (data_items vs)) ≡ Some (data_items vs)
  of_items-outline no_items h = refl
  of_items-outline (item v vs) h = rw (of_json-outline v h.0, of_items-outline vs h.1)

  of_members-outline : (ms : Members) (found : parsed.Members) → MembersAreHeld ms → AreBefore found ms → of_members (members_outline (data_members ms)) found ≡ Some (joined found (data_members ms))
  of_members-outline no_members found h before = ap Some (sym (joined-none found))
  of_members-outline (member k v ms) found h before =
      let d = data_of v in
      ap (option_and_then (λ e. of_members (members_outline (data_members ms)) (parsed.put k e found))) (of_json-outline v h.1)
      ∙ ap (of_members (members_outline (data_members ms))) (put-above found k v d ms before)
      ∙ of_members-outline ms (joined found (parsed.member k d parsed.no_members)) h.2 (AreBefore-joined found k d ms (AreBefore-tail found k v ms before) h.0)
      ∙ ap Some (joined-last found k d (data_members ms))

mutual
  pub whole_of-data_of : (v : Value) → IsHeld v → whole_of (data_of v) ≡ Some v
  whole_of-data_of null h = refl
  whole_of-data_of (flag b) h = refl
  whole_of-data_of (whole z) h = ap (option_map whole) (as_i64-of_integer z h)
  whole_of-data_of (text s) h = refl
  whole_of-data_of (list vs) h = ap (option_map list) (whole_items-data_items vs h)
  whole_of-data_of (object ms) h = ap (option_map object) (whole_members-data_members ms h)

  whole_items-data_items : (vs : Items) → ItemsAreHeld vs → whole_items (data_items vs) ≡ Some vs
  whole_items-data_items no_items h = refl
  whole_items-data_items (item v vs) h = rw (whole_of-data_of v h.0, whole_items-data_items vs h.1)

  whole_members-data_members : (ms : Members) → MembersAreHeld ms → whole_members (data_members ms) ≡ Some ms
  whole_members-data_members no_members h = refl
  whole_members-data_members (member k v ms) h = rw (whole_of-data_of v h.1, whole_members-data_members ms h.2)

-- the outline of a value nests as deep as the value
mutual
  pub depth-outline : (v : Value) → tree.depth (outline (data_of v)) ≡ depth v
  depth-outline null = refl
  depth-outline (flag b) = refl
  depth-outline (whole z) = refl
  depth-outline (text s) = refl
  depth-outline (list vs) = ap suc (items_depth-outline vs)
  depth-outline (object ms) = ap suc (members_depth-outline ms)

  items_depth-outline : (vs : Items) → tree.items_depth (items_outline (data_items vs)) ≡ items_depth vs
  items_depth-outline no_items = refl
  items_depth-outline (item v vs) = ap₂ max (depth-outline v) (items_depth-outline vs)

  members_depth-outline : (ms : Members) → tree.members_depth (members_outline (data_members ms)) ≡ members_depth ms
  members_depth-outline no_members = refl
  members_depth-outline (member k v ms) = ap₂ max (depth-outline v) (members_depth-outline ms)

-- a text with these tokens reads as the value's data
pub read-tokens_of : (v : Value) (bytes : List ℕ) → tokens bytes ≡ tokens_of v → IsHeld v → depth v ≤ 127 → read bytes ≡ Some (data_of v)
read-tokens_of v bytes same held shallow =
    let j = outline (data_of v) in
    let whole_text = ap (json.value 127) (same ∙ sym (append-nil (tokens_of v))) ∙ value-json_tokens j 127 [] (omega (arith, depth-outline v)) in
    ap (λ r. option_and_then of_json (option_and_then (λ p. json.if_last p.0 p.1) r)) whole_text ∙ of_json-outline v held
