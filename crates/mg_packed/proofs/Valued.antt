-- The value that the compact text of a value stands for is the value.
use Rattle.std.proofs.Common.{◌≡◌, ◌+◌, ◌≤◌, [], ◌∷◌, ◌++◌, length, Bool, true, false, Some, option_and_then, sym, ap, ◌∙◌, arith, append-nil, length-append}
use Rattle.json.specs.Json as json
use Rattle.json.specs.Lex.{tokens}
use Rattle.json.specs.Print.{quoted}
use Rattle.json.specs.Tree as tree
use Rattle.json.proofs.Printed.Tokens.{tokens-print}
use Rattle.json.proofs.Printed.Trees.{value-json_tokens, ArePrintable-json_tokens}
use Rattle.serde_json.specs.Read.{of_json}
use Rattle.serde_json.specs.Written.{items_outline, members_outline, outline, comma_if}
use Rattle.mg_value.specs.Value.{Value, null, flag, whole, text, list, object, Items, no_items, item, Members, no_members, member, depth, items_depth, members_depth}
use Rattle.mg_value.specs.Held.{IsHeld, ItemsAreHeld, MembersAreHeld, tokens_of}
use Rattle.mg_value.specs.Stored.{IsStored, AreStored, MembersAreStored}
use Rattle.mg_value.specs.Text.{compact, compact_items, compact_members, data_items, data_members, data_of, whole_of}
use Rattle.mg_value.proofs.Compact.{numbers, printed}
use Rattle.mg_value.proofs.Written.{of_json-outline, whole_of-data_of}
use Rattle.mg_packed.specs.Read.{or_null, value_in}

-- ---- what a `Json` can hold is held

mutual
  held : (v : Value) → IsStored v → IsHeld v
  held null s = tt
  held (flag b) s = tt
  held (whole z) s = s
  held (text t) s = tt
  held (list vs) s = items_held vs s
  held (object ms) s = members_held ms s

  items_held : (vs : Items) → AreStored vs → ItemsAreHeld vs
  items_held no_items s = tt
  items_held (item v vs) s = (held v s.0, items_held vs s.1)

  members_held : (ms : Members) → MembersAreStored ms → MembersAreHeld ms
  members_held no_members s = tt
  members_held (member k v ms) s = (s.0, held v s.2, members_held ms s.3)

-- ---- a value nests no deeper than its text is long

mutual
  depth-outline : (v : Value) → tree.depth (outline (data_of v)) ≤ length (compact v)
  depth-outline null = omega arith
  depth-outline (flag b) = omega arith
  depth-outline (whole z) = omega arith
  depth-outline (text s) = omega arith
  depth-outline (list vs) = omega (arith, items_depth-outline false vs)
  depth-outline (object ms) = omega (arith, members_depth-outline false ms)

  items_depth-outline : (later : Bool) (vs : Items) → tree.items_depth (items_outline (data_items vs)) ≤ length (compact_items later vs)
  items_depth-outline later no_items = omega arith
  items_depth-outline later (item v vs) =
      omega (arith, depth-outline v, items_depth-outline true vs, length-append (comma_if later) (compact v ++ compact_items true vs), length-append (compact v) (compact_items true vs))

  members_depth-outline : (later : Bool) (ms : Members) → tree.members_depth (members_outline (data_members ms)) ≤ length (compact_members later ms)
  members_depth-outline later no_members = omega arith
  members_depth-outline later (member k v ms) =
      omega (arith, depth-outline v, members_depth-outline true ms, length-append (comma_if later) (quoted k ++ 58 ∷ (compact v ++ compact_members true ms)), length-append (quoted k) (58 ∷ (compact v ++ compact_members true ms)), length-append (compact v) (compact_members true ms))

pub valued : (v : Value) → IsStored v → value_in (compact v) ≡ v
unfolding value_in
valued v stored =
    let h = held v stored in
    let j = outline (data_of v) in
    let n = length (compact v) in
    let same : tokens (compact v) ≡ tokens_of v = ap tokens (sym (printed v)) ∙ tokens-print (tokens_of v) (ArePrintable-json_tokens j (numbers v h)) in
    let tree : json.value n (tokens (compact v)) ≡ Some (j, []) = ap (json.value n) (same ∙ sym (append-nil (tokens_of v))) ∙ value-json_tokens j n [] (depth-outline v) in
    ap (λ r. or_null (option_and_then whole_of (option_and_then (λ p. of_json p.0) r))) tree
    ∙ ap (λ r. or_null (option_and_then whole_of r)) (of_json-outline v h)
    ∙ ap or_null (whole_of-data_of v h)
