-- The compact text of a value reads as the value.
use Rattle.std.proofs.Common.{◌≡◌, ℕ, suc, ◌≤◌, ◌<◌, ◌^◌, ◌==◌, pos, negsuc, List, [], ◌∷◌, Some, false, cond, IsUtf8, decimal, drop, get_or, option_and_then, sym, ap, ◌∙◌, arith}
use Rattle.std.specs.Fmt.{signed_decimal}
use Rattle.std.proofs.lemmas.Bool.{ne_eqb}
use Rattle.std.proofs.lemmas.Fmt.{first_decimal}
use Rattle.json.specs.Json.{document}
use Rattle.json.specs.Lex.{tokens}
use Rattle.json.specs.Print.{IsNumber, print}
use Rattle.json.specs.Tree.{HasNumbers, ItemsHaveNumbers, MembersHaveNumbers}
use Rattle.json.specs.Word.{after_exponent, after_fraction, after_number, after_whole, head}
use Rattle.json.proofs.Printed.Decimals.{IsNumber-decimal}
use Rattle.json.proofs.Printed.Tokens.{tokens-print}
use Rattle.json.proofs.Printed.Trees.{ArePrintable-json_tokens, document-print}
use Rattle.serde_json.specs.Written.{items_outline, members_outline, outline}
use Rattle.serde_json.proofs.Texts.{print-outline}
use Rattle.mg_value.specs.Value.{Value, null, flag, whole, text, list, object, Items, no_items, item, Members, no_members, member, depth}
use Rattle.mg_value.specs.Held.{IsHeld, ItemsAreHeld, MembersAreHeld, tokens_of}
use Rattle.mg_value.specs.Text.{Reads, compact, data_items, data_members, data_of}
use Rattle.mg_value.proofs.Texts.{compact_text-data_of}
use Rattle.mg_value.proofs.Written.{depth-outline, read-tokens_of, whole_of-data_of}

-- ---- the decimal text of each number is a JSON number

no_sign : (ds : List ℕ) → 48 < get_or ds 0 0 → (head ds == 45) ≡ false
no_sign [] h = absurd (omega arith)
no_sign (d ∷ ds) h = ne_eqb d 45 (λ e. omega arith)

negative : (ds : List ℕ) → (head ds == 45) ≡ false → IsNumber ds → IsNumber (45 ∷ ds)
unfolding after_number
negative ds e h = sym (ap (λ b. option_and_then after_exponent (option_and_then after_fraction (after_whole (cond b (drop 1 ds) ds)))) e) ∙ h

below_zero : (n : ℕ) → suc n < 2 ^ 64 → IsNumber (signed_decimal (negsuc n))
below_zero n small = negative (decimal (suc n)) (no_sign (decimal (suc n)) (first_decimal (suc n) (omega arith) small)) (IsNumber-decimal (suc n) small)

mutual
  pub numbers : (v : Value) → IsHeld v → HasNumbers (outline (data_of v))
  numbers null h = tt
  numbers (flag b) h = tt
  numbers (whole (pos n)) h = IsNumber-decimal n (grind arith)
  numbers (whole (negsuc n)) h = below_zero n (grind arith)
  numbers (text s) h = tt
  numbers (list vs) h = items_numbers vs h
  numbers (object ms) h = members_numbers ms h

  items_numbers : (vs : Items) → ItemsAreHeld vs → ItemsHaveNumbers (items_outline (data_items vs))
  items_numbers no_items h = tt
  items_numbers (item v vs) h = (numbers v h.0, items_numbers vs h.1)

  members_numbers : (ms : Members) → MembersAreHeld ms → MembersHaveNumbers (members_outline (data_members ms))
  members_numbers no_members h = tt
  members_numbers (member k v ms) h = (numbers v h.1, members_numbers ms h.2)

-- the tokens of a value are printed as its compact text
pub printed : (v : Value) → print (tokens_of v) ≡ compact v
printed v = print-outline (data_of v) ∙ compact_text-data_of v

-- the compact text of a value is a JSON text of the value's outline
pub document_compact : (v : Value) → IsHeld v → depth v ≤ 127 → document (compact v) ≡ Some (outline (data_of v))
document_compact v held shallow = ap document (sym (printed v)) ∙ document-print (outline (data_of v)) (numbers v held) (omega (arith, depth-outline v))

-- the compact text of a value reads as the value, where it is UTF-8 and nests at most 127 deep
pub reads_compact : (v : Value) → IsHeld v → depth v ≤ 127 → IsUtf8 (compact v) → Reads (compact v) v
reads_compact v held shallow utf8 =
    let same : tokens (compact v) ≡ tokens_of v = ap tokens (sym (printed v)) ∙ tokens-print (tokens_of v) (ArePrintable-json_tokens (outline (data_of v)) (numbers v held)) in
    (data_of v, (utf8, read-tokens_of v (compact v) same held shallow), whole_of-data_of v held)
