-- The letters of the URL-safe base64 of RFC 4648 (section 5). Every bookmark but `nil`, which has no other letters either, is spelled with
-- them alone.
use Rattle.std.specs.Prelude.{ℕ, ◌==◌, List, Bool, ◌||◌}
use Rattle.std.specs.Char.{is_ascii_alphanumeric}
use Rattle.std.specs.List.{list_all}

-- whether a byte is one of these letters: `A` to `Z`, `a` to `z`, `0` to `9`, `-` and `_`
abbrev pub is_letter : ℕ → Bool
is_letter c = is_ascii_alphanumeric c || (c == 45 || c == 95)

-- whether a text consists of these letters
abbrev pub has_only_letters : List ℕ → Bool
has_only_letters t = list_all is_letter t
