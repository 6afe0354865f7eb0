-- Reading gives one value.
use Rattle.std.proofs.Common.{◌≡◌, ℕ, List, Bool, true, false, Option, Some, None, option_map, refl, ap}
use Rattle.std.specs.Prelude.{is_some, option_and_then, if◌then◌else◌, IsUtf8}
use Rattle.std.specs.Str.{is_utf8}
use Rattle.std.proofs.lemmas.Str.{is_utf8-from_IsUtf8, IsUtf8-from_is_utf8}
use Rattle.json.specs.Json.{document}
use Rattle.json.specs.Find.{as_str, get}
use Rattle.serde_json.specs.Data as parsed
use Rattle.serde_json.specs.Data.{Data, Num, unsigned, negative, float}
use Rattle.serde_json.specs.Find.{as_i64}
use Rattle.serde_json.specs.Read.{read}
use Rattle.mg_value.specs.Value.{Value, whole, list, object, Items, item, Members, member}
use Rattle.mg_value.specs.Text.{whole_of, whole_items, whole_members, IsText, Reads}
use Rattle.mg_face.specs.Json.{json_of, is_json, text_at}
use Rattle.mg_face.specs.Numbers.{whole_number, value_of, value_items, value_members}

mapped : {A B : Type 0} (f : A → B) (o : Option A) (b : B) → option_map f o ≡ Some b → (a : A) × (o ≡ Some a) × (f a ≡ b)
mapped f None b e = absurd cc
mapped f (Some a) b e = (a, refl, cc)

bound : {A B : Type 0} (f : A → Option B) (o : Option A) (b : B) → option_and_then f o ≡ Some b → (a : A) × (o ≡ Some a) × (f a ≡ Some b)
bound f None b e = absurd cc
bound f (Some a) b e = (a, refl, e)

whole_number_is : (n : Num) (v : Value) → option_map whole (as_i64 n) ≡ Some v → option_map whole (whole_number n) ≡ Some v
whole_number_is (unsigned n) v e = e
whole_number_is (negative z) v e = e
whole_number_is (float x) v e = absurd cc

-- data whose numbers are all i64 has that value
mutual
  pub whole_is_value : (d : Data) (v : Value) → whole_of d ≡ Some v → value_of d ≡ Some v
  whole_is_value parsed.null v e = e
  whole_is_value (parsed.boolean b) v e = e
  whole_is_value (parsed.number n) v e = whole_number_is n v e
  whole_is_value (parsed.string s) v e = e
  whole_is_value (parsed.array ds) v e = let p = mapped list (whole_items ds) v e in rw (whole_are_items ds p.0 p.1) (ap Some p.2)
  whole_is_value (parsed.object ms) v e = let p = mapped object (whole_members ms) v e in rw (whole_are_members ms p.0 p.1) (ap Some p.2)

  whole_are_items : (ds : parsed.Items) (vs : Items) → whole_items ds ≡ Some vs → value_items ds ≡ Some vs
  whole_are_items parsed.no_items vs e = e
  whole_are_items (parsed.item d ds) vs e =
      let p = bound (λ v. option_map (item v) (whole_items ds)) (whole_of d) vs e in
      let q = mapped (item p.0) (whole_items ds) vs p.2 in
      rw (whole_is_value d p.0 p.1, whole_are_items ds q.0 q.1) (ap Some q.2)

  whole_are_members : (ms : parsed.Members) (vs : Members) → whole_members ms ≡ Some vs → value_members ms ≡ Some vs
  whole_are_members parsed.no_members vs e = e
  whole_are_members (parsed.member k d ms) vs e =
      let p = bound (λ v. option_map (member k v) (whole_members ms)) (whole_of d) vs e in
      let q = mapped (member k p.0) (whole_members ms) vs p.2 in
      rw (whole_is_value d p.0 p.1, whole_are_members ms q.0 q.1) (ap Some q.2)

-- the value of a text is that of its data
pub json_of_data : (bytes : List ℕ) (d : Data) → IsUtf8 bytes → read bytes ≡ Some d → json_of bytes ≡ value_of d
json_of_data bytes d utf8 text = rw (is_utf8-from_IsUtf8 bytes utf8, text) refl

-- the value is the one that the bytes read as
pub reads_json : (bytes : List ℕ) (v : Value) → Reads bytes v → json_of bytes ≡ Some v
reads_json bytes v (d, (utf8, text), all) = rw (json_of_data bytes d utf8 text) (whole_is_value d v all)

no_json_if : (bytes : List ℕ) (b : Bool) → is_utf8 bytes ≡ b → (IsUtf8 bytes → read bytes ≡ None) → (if b then option_and_then value_of (read bytes) else None) ≡ None
no_json_if bytes true is none = rw (none (IsUtf8-from_is_utf8 bytes is)) refl
no_json_if bytes false is none = refl

-- bytes that have no data have no value
pub no_json : (bytes : List ℕ) → (IsUtf8 bytes → read bytes ≡ None) → json_of bytes ≡ None
no_json bytes none = no_json_if bytes (is_utf8 bytes) refl none

no_data : (o : Option Data) → ((d : Data) → ¬ (o ≡ Some d)) → o ≡ None
no_data None never = refl
no_data (Some d) never = absurd (never d refl)

-- nor have bytes that are no JSON text
pub not_json : (bytes : List ℕ) → ((d : Data) → ¬ (IsText bytes d)) → json_of bytes ≡ None
not_json bytes never = no_json bytes (λ utf8. no_data (read bytes) (λ d same. never d (utf8, same)))

-- the text at a name of bytes in UTF-8 is that of their parse tree
pub text_at_utf8 : (name bytes : List ℕ) → IsUtf8 bytes → text_at name bytes ≡ option_and_then (λ j. option_and_then as_str (get name j)) (document bytes)
text_at_utf8 name bytes utf8 = rw (is_utf8-from_IsUtf8 bytes utf8) refl

no_text_at_if : (name bytes : List ℕ) (b : Bool) → is_utf8 bytes ≡ b → ¬ (IsUtf8 bytes) → (if b then option_and_then (λ j. option_and_then as_str (get name j)) (document bytes) else None) ≡ None
no_text_at_if name bytes true is not = absurd (not (IsUtf8-from_is_utf8 bytes is))
no_text_at_if name bytes false is not = refl

-- other bytes have no text at a name
pub no_text_at : (name bytes : List ℕ) → ¬ (IsUtf8 bytes) → text_at name bytes ≡ None
no_text_at name bytes not = no_text_at_if name bytes (is_utf8 bytes) refl not

-- bytes that have data are a JSON text
pub is_text : (bytes : List ℕ) (d : Data) → IsText bytes d → is_json bytes ≡ true
is_text bytes d (utf8, text) = rw (is_utf8-from_IsUtf8 bytes utf8, text) refl

not_text_if : (bytes : List ℕ) (b : Bool) → is_utf8 bytes ≡ b → ((d : Data) → ¬ (IsText bytes d)) → (if b then is_some (read bytes) else false) ≡ false
not_text_if bytes true is never = rw (no_data (read bytes) (λ d same. never d (IsUtf8-from_is_utf8 bytes is, same))) refl
not_text_if bytes false is never = refl

-- so are bytes that have a value
pub is_value : (bytes : List ℕ) (v : Value) → Reads bytes v → is_json bytes ≡ true
is_value bytes v (d, text, all) = is_text bytes d text

-- other bytes are none
pub is_no_text : (bytes : List ℕ) → ((d : Data) → ¬ (IsText bytes d)) → is_json bytes ≡ false
is_no_text bytes never = not_text_if bytes (is_utf8 bytes) refl never
