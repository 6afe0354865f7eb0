-- Texts that are not the spelling of any place.
use Rattle.std.proofs.Common.{◌≡◌, ℕ, List, None, sym, ap, ◌∙◌, subst}
use Rattle.base64.specs.GeneralPurpose.{decoded_of}
use Rattle.base64.specs.Engines.{url_safe_no_pad}
use Rattle.mg_value.specs.Text.{Reads, compact}
use Rattle.mg_value.specs.Value.{Value}
use Rattle.mg_bookmark.specs.Bookmark.{RowPlace, Spells, place_value}
use Rattle.mg_bookmark.specs.Decoding.{IsDecoded}
use Rattle.mg_bookmark.proofs.Readings.{decoded_again}
use Rattle.mg_bookmark.proofs.Spellings.{one_value, utf8-bytes}

-- a text that is not base64
pub undecoded : (t : List ℕ) → decoded_of url_safe_no_pad t ≡ None → (p : RowPlace) → Spells t p → ⊥
undecoded t none p s =
    let bytes = compact (place_value p) in
    let some = ap (decoded_of url_safe_no_pad) s.0 ∙ decoded_again bytes (utf8-bytes bytes s.1.1.0) in
    cc

-- the bytes of a spelling are the array of its place
array_bytes : (t bytes : List ℕ) → IsDecoded t bytes → (p : RowPlace) → Spells t p → compact (place_value p) ≡ bytes
array_bytes t bytes d p s = d.only (compact (place_value p)) (utf8-bytes (compact (place_value p)) s.1.1.0) s.0

-- a text whose bytes are not the text of a value
pub unread_bytes : (t bytes : List ℕ) → IsDecoded t bytes → ((v : Value) → Reads bytes v → ⊥) → (p : RowPlace) → Spells t p → ⊥
unread_bytes t bytes d none p s = none (place_value p) (subst (λ b. Reads b (place_value p)) (array_bytes t bytes d p s) s.1)

-- the value of the bytes of a spelling is the array of its place
array_value : (t bytes : List ℕ) (v : Value) → IsDecoded t bytes → Reads bytes v → (p : RowPlace) → Spells t p → v ≡ place_value p
array_value t bytes v d r p s = one_value bytes v (place_value p) r (subst (λ b. Reads b (place_value p)) (array_bytes t bytes d p s) s.1)

-- a text whose value is not the array of a place
pub unread_value : (t bytes : List ℕ) (v : Value) → IsDecoded t bytes → Reads bytes v → ((p : RowPlace) → v ≡ place_value p → ⊥) → (p : RowPlace) → Spells t p → ⊥
unread_value t bytes v d r none p s = none p (array_value t bytes v d r p s)

-- another spelling of the array of a place
pub unread_spelling : (t bytes : List ℕ) (v : Value) (q : RowPlace) → IsDecoded t bytes → Reads bytes v → v ≡ place_value q → (bytes ≡ compact (place_value q) → ⊥) → (p : RowPlace) → Spells t p → ⊥
unread_spelling t bytes v q d r e other p s = other (sym (array_bytes t bytes d p s) ∙ ap compact (sym (array_value t bytes v d r p s) ∙ e))
