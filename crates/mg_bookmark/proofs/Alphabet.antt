-- A bookmark is spelled with the letters of URL-safe base64 alone.
use Rattle.std.proofs.Common.{◌≡◌, ℕ, suc, ◌+◌, ◌*◌, ◌/◌, ◌%◌, ◌<◌, List, [], ◌∷◌, ◌++◌, Bool, true, false, ◌&&◌, Option, Some, None, slice_index, refl, ap, ◌∙◌, codes, arith}
use Rattle.base64.specs.GeneralPurpose.{IsBytes, encode_of, engine_symbols}
use Rattle.base64.specs.Engines.{url_safe_no_pad}
use Rattle.base64.specs.Rfc4648.{encode_group, encode_symbols}
use Rattle.base64.proofs.Tables.{all_below_at}
use Rattle.mg_bookmark.specs.Bookmark.{IsReadAs, RowPlace, Spells, place_value}
use Rattle.mg_bookmark.specs.Letters.{has_only_letters, is_letter}
use Rattle.mg_bookmark.specs.Reading.{bookmark_read}
use Rattle.mg_bookmark.proofs.Readings.{is_read_as}
use Rattle.mg_bookmark.proofs.Spellings.{utf8-bytes}
use Rattle.mg_value.specs.Text.{compact}

-- the 64 symbols
abbrev table : List ℕ
table = engine_symbols url_safe_no_pad

-- each of them is a letter
symbol : (i : ℕ) → i < 64 → is_letter (slice_index table i) ≡ true
symbol i low = all_below_at (λ i. is_letter (slice_index table i)) 64 i refl low

both : (a b : Bool) → a ≡ true → b ≡ true → (a && b) ≡ true
both true b h k = k
both false b h k = absurd cc

parts : (a b : Bool) → (a && b) ≡ true → (a ≡ true) × (b ≡ true)
parts true b h = (refl, h)
parts false b h = absurd cc

all_append : (s t : List ℕ) → has_only_letters s ≡ true → has_only_letters t ≡ true → has_only_letters (s ++ t) ≡ true
all_append [] t h k = k
all_append (c ∷ s) t h k = let p = parts (is_letter c) (has_only_letters s) h in both (is_letter c) (has_only_letters (s ++ t)) p.0 (all_append s t p.1 k)

abbrev at : ℕ → ℕ
at i = slice_index table i

one : (i : ℕ) → i < 64 → has_only_letters (at i ∷ []) ≡ true
one i low = both (is_letter (at i)) true (symbol i low) refl

two : (i j : ℕ) → i < 64 → j < 64 → has_only_letters (at i ∷ at j ∷ []) ≡ true
two i j h k = both (is_letter (at i)) (has_only_letters (at j ∷ [])) (symbol i h) (one j k)

three : (i j k : ℕ) → i < 64 → j < 64 → k < 64 → has_only_letters (at i ∷ at j ∷ at k ∷ []) ≡ true
three i j k h l m = both (is_letter (at i)) (has_only_letters (at j ∷ at k ∷ [])) (symbol i h) (two j k l m)

four : (i j k n : ℕ) → i < 64 → j < 64 → k < 64 → n < 64 → has_only_letters (at i ∷ at j ∷ at k ∷ at n ∷ []) ≡ true
four i j k n h l m o = both (is_letter (at i)) (has_only_letters (at j ∷ at k ∷ at n ∷ [])) (symbol i h) (three j k n l m o)

low_rest : (a : ℕ) (m : List ℕ) → IsBytes (a ∷ m) → IsBytes m
low_rest a m low i = low (suc i)

symbols : (m : List ℕ) → IsBytes m → has_only_letters (encode_symbols table m) ≡ true
unfolding encode_symbols
symbols [] low = refl
symbols (a ∷ []) low = let h : a < 256 = low 0 in two (a / 4) (a % 4 * 16) (omega arith) (omega arith)
symbols (a ∷ b ∷ []) low =
    let h : a < 256 = low 0 in
    let k : b < 256 = low 1 in
    three (a / 4) (a % 4 * 16 + b / 16) (b % 16 * 4) (omega arith) (omega arith) (omega arith)
symbols (a ∷ b ∷ c ∷ rest) low =
    let h : a < 256 = low 0 in
    let k : b < 256 = low 1 in
    let l : c < 256 = low 2 in
    all_append (encode_group table a b c) (encode_symbols table rest)
    (four (a / 4) (a % 4 * 16 + b / 16) (b % 16 * 4 + c / 64) (c % 64) (omega arith) (omega arith) (omega arith) (omega arith))
    (symbols rest (low_rest c rest (low_rest b (c ∷ rest) (low_rest a (b ∷ c ∷ rest) low))))

encoded : (m : List ℕ) → IsBytes m → has_only_letters (encode_of url_safe_no_pad m) ≡ true
encoded m low = all_append (encode_symbols table m) [] (symbols m low) refl

nil_letters : has_only_letters (codes "nil") ≡ true
nil_letters = refl

spelled_letters : (t : List ℕ) (p : RowPlace) → Spells t p → has_only_letters t ≡ true
spelled_letters t p s = ap has_only_letters s.0 ∙ encoded (compact (place_value p)) (utf8-bytes (compact (place_value p)) s.1.1.0)

-- a text that has another byte is not a bookmark
pub other_byte : (t : List ℕ) → has_only_letters t ≡ false → bookmark_read t ≡ None
other_byte t h = of (bookmark_read t) refl (is_read_as t)
  where
    of : (r : Option (Option RowPlace)) → bookmark_read t ≡ r → IsReadAs t r → r ≡ None
    of None e k = refl
    of (Some None) e k = let yes = ap has_only_letters k ∙ nil_letters in absurd cc
    of (Some (Some p)) e k = let yes = spelled_letters t p k.1 in absurd cc
