-- How the code recognizes bytes that end within a target.
use Rattle.std.specs.Prelude.{ℕ, Bool, true, false, ◌&&◌, ◌==◌, List, [], ◌∷◌, if◌then◌else◌}
use Rattle.std.specs.List.{list_all}
use Rattle.httparse.specs.Grammar.{is_token_byte, is_uri_byte}

-- the bytes without leading empty lines
abbrev pub skip_blank : List ℕ → List ℕ
skip_blank [] = []
skip_blank (a ∷ []) = if a == 10 then [] else a ∷ []
skip_blank (a ∷ b ∷ rest) =
    if a == 10 then skip_blank (b ∷ rest) else (if a == 13 && b == 10 then skip_blank rest else a ∷ b ∷ rest)

-- The bytes are a method, a space, and the beginning of a target, which may be empty. With `seen`, the method begins before these bytes:
-- they begin with the rest of it, which may be empty.
abbrev pub is_method_and_target : Bool → List ℕ → Bool
is_method_and_target seen [] = false
is_method_and_target seen (b ∷ rest) =
    if is_token_byte b then is_method_and_target true rest else seen && (b == 32 && list_all is_uri_byte rest)

-- the bytes are empty lines, a method, a space, and the beginning of a target
abbrev pub is_in_target : List ℕ → Bool
is_in_target bytes = is_method_and_target false (skip_blank bytes)
