-- Lemmas of the steps of reading a spelling.
use Rattle.std.proofs.Common.{◌≡◌, ◌⊎◌, inl, inr, ℕ, zero, suc, ◌+◌, ◌/◌, ◌%◌, ◌<◌, List, [], ◌∷◌, ◌++◌, Bool, true, false, cond, ltb, leb, Option, Some, refl, sym, ap, ◌∙◌, ◌≢◌, length, subst, slice_index, arith}
use Rattle.std.proofs.Math.Utf8.{encode, scalar, scalars}
use Rattle.std.specs.List.{AllByRecursion}
use Rattle.std.specs.Str.{IsUtf8, encode_utf8_all}
use Rattle.std.proofs.lemmas.Bool.{and_parts, ltb-true}
use Rattle.base64.specs.GeneralPurpose.{IsBytes}
use Rattle.mg_value.specs.Text.{Reads, whole_of}
use Rattle.mg_value.specs.Value.{Value, list}
use Rattle.mg_value.specs.View.{items_view}
use Rattle.mg_value.specs.declared.value.Json.{Json}
use Rattle.mg_bookmark.specs.Bookmark.{RowPlace, place_value}

-- each number is a byte
abbrev Low : List ℕ → Type 0
Low xs = AllByRecursion (λ x. x < 256) xs

test_go : (b t : Bool) → b ≡ t → (b ≡ true) ⊎ (b ≡ false)
test_go b true e = inl e
test_go b false e = inr e

test : (c n : ℕ) → (ltb c n ≡ true) ⊎ (ltb c n ≡ false)
test c n = test_go (ltb c n) (ltb c n) refl

-- the number of a character is below 1114112
character-low : (c : ℕ) → scalar c ≡ true → c < 1114112
character-low c h = elim (test c 55296) as (λ _. c < 1114112) [
  | inl low ↦ let below = ltb-true c 55296 low in omega arith
  | inr high ↦ ltb-true c 1114112 (and_parts (leb 57344 c) (ltb c 1114112) (rw high at h)).1
]

low_two : (c : ℕ) → c < 2048 → Low ((192 + c / 64) ∷ (128 + c % 64) ∷ [])
low_two c h = (omega arith, (omega arith, tt))

low_three : (c : ℕ) → c < 65536 → Low ((224 + c / 4096) ∷ (128 + (c / 64) % 64) ∷ (128 + c % 64) ∷ [])
low_three c h = (omega arith, (omega arith, (omega arith, tt)))

low_four : (c : ℕ) → c < 1114112 → Low ((240 + c / 262144) ∷ (128 + (c / 4096) % 64) ∷ (128 + (c / 64) % 64) ∷ (128 + c % 64) ∷ [])
low_four c h = (omega arith, (omega arith, (omega arith, (omega arith, tt))))

cond_low : (b : Bool) (xs ys : List ℕ) → (b ≡ true → Low xs) → (b ≡ false → Low ys) → Low (cond b xs ys)
cond_low true xs ys x y = x refl
cond_low false xs ys x y = y refl

-- the bytes of a character are bytes
encode-low : (c : ℕ) → scalar c ≡ true → Low (encode c)
unfolding encode
encode-low c h =
    cond_low (ltb c 128) _ _ (λ e. let below = ltb-true c 128 e in (omega arith, tt))
    (λ _. cond_low (ltb c 2048) _ _ (λ e. low_two c (ltb-true c 2048 e))
    (λ _. cond_low (ltb c 65536) _ _ (λ e. low_three c (ltb-true c 65536 e)) (λ _. low_four c (character-low c h))))

append-low : (xs ys : List ℕ) → Low xs → Low ys → Low (xs ++ ys)
append-low [] ys a b = b
append-low (x ∷ xs) ys a b = (a.0, append-low xs ys a.1 b)

encodes-low : (cs : List ℕ) → scalars cs ≡ true → Low (encode_utf8_all cs)
encodes-low [] h = tt
encodes-low (c ∷ cs) h =
    let both = and_parts (scalar c) (scalars cs) h in
    append-low (encode c) (encode_utf8_all cs) (encode-low c both.0) (encodes-low cs both.1)

read-low : (xs : List ℕ) → Low xs → (i : ℕ) → slice_index xs i < 256
read-low [] h i = omega arith
read-low (x ∷ xs) h zero = h.0
read-low (x ∷ xs) h (suc i) = read-low xs h.1 i

-- UTF-8 consists of bytes
pub utf8-bytes : (bs : List ℕ) → IsUtf8 bs → IsBytes bs
utf8-bytes bs u = subst IsBytes u.1.1 (read-low (encode_utf8_all u.0) (encodes-low u.0 u.1.0))

-- a text has at most one value
one_data : {D V : Type 0} (f : D → Option V) (r : Option D) (d e : D) (v w : V) → r ≡ Some d → r ≡ Some e → f d ≡ Some v → f e ≡ Some w → v ≡ w
one_data f r d e v w a b x y =
    let same : d ≡ e = cc in
    let values : Some v ≡ Some w = sym x ∙ ap f same ∙ y in
    cc

pub one_value : (bs : List ℕ) (v w : Value) → Reads bs v → Reads bs w → v ≡ w
one_value bs v w a b = one_data whole_of _ a.0 b.0 v w a.1.1 b.1.1 a.2 b.2

-- an array of another length than 5 is not the array of a place
pub not_five : (js : List Json) → length js ≢ 5 → (p : RowPlace) → list (items_view js) ≡ place_value p → ⊥
not_five [] other p e = cc
not_five (a ∷ []) other p e = cc
not_five (a ∷ b ∷ []) other p e = cc
not_five (a ∷ b ∷ c ∷ []) other p e = cc
not_five (a ∷ b ∷ c ∷ d ∷ []) other p e = cc
not_five (a ∷ b ∷ c ∷ d ∷ f ∷ []) other p e = other refl
not_five (a ∷ b ∷ c ∷ d ∷ f ∷ g ∷ js) other p e = cc
