-- The scan of the code is right: it recognizes the bytes that end within a target.
use Rattle.std.proofs.Common.{◌≡◌, ℕ, zero, suc, ◌<◌, ◌≤◌, ◌==◌, ◌&&◌, Bool, true, false, cond, List, [], ◌∷◌, ◌++◌, length, refl, sym, ap, ◌∙◌, append_assoc, arith}
use Rattle.std.specs.Bool.{IsTrue}
use Rattle.std.specs.List.{list_all}
use Rattle.std.proofs.lemmas.Bool.{and_parts}
use Rattle.std.proofs.lemmas.Bool.Decides.{nat_tests}
use Rattle.std.proofs.lemmas.List.Elements.{All-nil, All-cons, All-head, All-tail}
use Rattle.std.proofs.lemmas.List.Sums.{AllPass-from_list_all, list_all-from_AllPass}
use Rattle.httparse.specs.Grammar.{is_token_byte, is_uri_byte, AllPass, LineEnd, crlf, lf, print_blank, EndsInTarget}
use Rattle.mg_http.specs.TargetScan.{skip_blank, is_method_and_target, is_in_target}

-- a byte of a token is neither a space nor a part of a line end
no_space : is_token_byte 32 ≡ false
unfolding is_token_byte
no_space = refl

no_return : is_token_byte 13 ≡ false
unfolding is_token_byte
no_return = refl

no_feed : is_token_byte 10 ≡ false
unfolding is_token_byte
no_feed = refl

-- a byte of a token differs from one that is not
differs : (x y : ℕ) → is_token_byte x ≡ true → is_token_byte y ≡ false → (x == y) ≡ false
differs x y token other =
    elim (x == y) as (λ v. (x == y) ≡ v → v ≡ false) [
      | true ↦ λ e. let same : x ≡ y = grind (arith, nat_tests, e) in let f : true ≡ false = sym token ∙ ap is_token_byte same ∙ other in cc
      | false ↦ λ e. refl
    ] refl

-- the bytes are a method (of which a part was seen before), a space, and the beginning of a target
abbrev Found : Bool → List ℕ → Type 0
Found seen bytes =
    (m : List ℕ) × (t : List ℕ) × AllPass is_token_byte m × AllPass is_uri_byte t × (bytes ≡ m ++ 32 ∷ t) × (seen ≡ false → 0 < length m)

found : (seen : Bool) (bytes : List ℕ) → is_method_and_target seen bytes ≡ true → Found seen bytes
found seen [] e = let f : false ≡ true = e in cc
found seen (b ∷ rest) e =
    elim (is_token_byte b) as (λ v. is_token_byte b ≡ v → cond v (is_method_and_target true rest) (seen && (b == 32 && list_all is_uri_byte rest)) ≡ true → Found seen (b ∷ rest)) [
      | true ↦ λ here k.
          let r = found true rest k in
          (b ∷ r.0, r.1, All-cons (λ x. IsTrue (is_token_byte x)) b r.0 here r.2, r.3, ap (λ (t : List ℕ). b ∷ t) r.4, λ s. omega arith)
      | false ↦ λ here k.
          let parts = and_parts seen (b == 32 && list_all is_uri_byte rest) k in
          let more = and_parts (b == 32) (list_all is_uri_byte rest) parts.1 in
          let space : b ≡ 32 = grind (arith, nat_tests, more.0) in (
            [],
            rest,
            All-nil (λ x. IsTrue (is_token_byte x)),
            AllPass-from_list_all is_uri_byte rest more.1,
            ap (λ (x : ℕ). x ∷ rest) space,
            λ s. absurd (let no : false ≡ true = sym s ∙ parts.0 in cc),
          )
    ] refl e

-- a method and the beginning of a target pass the scan
seen_found : (m t : List ℕ) → AllPass is_token_byte m → AllPass is_uri_byte t → is_method_and_target true (m ++ 32 ∷ t) ≡ true
seen_found [] t a b = rw no_space (list_all-from_AllPass is_uri_byte t b)
seen_found (x ∷ m) t a b =
    rw (All-head (λ y. IsTrue (is_token_byte y)) x m a) (seen_found m t (All-tail (λ y. IsTrue (is_token_byte y)) x m a) b)

method_found : (m t : List ℕ) → 0 < length m → AllPass is_token_byte m → AllPass is_uri_byte t → is_method_and_target false (m ++ 32 ∷ t) ≡ true
method_found [] t some a b = absurd (omega arith)
method_found (x ∷ m) t some a b =
    rw (All-head (λ y. IsTrue (is_token_byte y)) x m a) (seen_found m t (All-tail (λ y. IsTrue (is_token_byte y)) x m a) b)

-- ---- empty lines

-- the bytes are empty lines, and then what `skip_blank` leaves
blank_lines : (n : ℕ) (bytes : List ℕ) → length bytes ≤ n → (blank : List LineEnd) × (bytes ≡ print_blank blank ++ skip_blank bytes)
blank_lines n [] small = ([], refl)
blank_lines n (a ∷ []) small =
    elim (a == 10) as (λ v. (a == 10) ≡ v → (blank : List LineEnd) × (a ∷ [] ≡ print_blank blank ++ cond v [] (a ∷ []))) [
      | true ↦ λ e. let is : a ≡ 10 = grind (arith, nat_tests, e) in (lf ∷ [], rw is refl)
      | false ↦ λ e. ([], refl)
    ] refl
blank_lines zero (a ∷ b ∷ rest) small = absurd (omega arith)
blank_lines (suc n) (a ∷ b ∷ rest) small =
    elim (a == 10) as (λ v. (a == 10) ≡ v
    → (blank : List LineEnd) × (a ∷ b ∷ rest ≡ print_blank blank ++ cond v (skip_blank (b ∷ rest)) (cond (a == 13 && b == 10) (skip_blank rest) (a ∷ b ∷ rest)))) [
      | true ↦ λ e.
          let is : a ≡ 10 = grind (arith, nat_tests, e) in
          let r = blank_lines n (b ∷ rest) (omega arith) in
          (lf ∷ r.0, ap (λ (x : ℕ). x ∷ b ∷ rest) is ∙ ap (λ (t : List ℕ). 10 ∷ t) r.1)
      | false ↦ λ e.
          elim (a == 13 && b == 10) as (λ v. (a == 13 && b == 10) ≡ v → (blank : List LineEnd) × (a ∷ b ∷ rest ≡ print_blank blank ++ cond v (skip_blank rest) (a ∷ b ∷ rest))) [
            | true ↦ λ k.
                let parts = and_parts (a == 13) (b == 10) k in
                let first : a ≡ 13 = grind (arith, nat_tests, parts.0) in
                let second : b ≡ 10 = grind (arith, nat_tests, parts.1) in
                let r = blank_lines n rest (omega arith) in
                (crlf ∷ r.0, ap (λ (x : ℕ). x ∷ b ∷ rest) first ∙ ap (λ (x : ℕ). 13 ∷ x ∷ rest) second ∙ ap (λ (t : List ℕ). 13 ∷ 10 ∷ t) r.1)
            | false ↦ λ k. ([], refl)
          ] refl
    ] refl

-- bytes that begin with a byte of a token have no leading empty line
stays : (x : ℕ) (rest : List ℕ) → is_token_byte x ≡ true → skip_blank (x ∷ rest) ≡ x ∷ rest
stays x [] token = let feed : (x == 10) ≡ false = differs x 10 token no_feed in rw feed refl
stays x (y ∷ rest) token =
    let feed : (x == 10) ≡ false = differs x 10 token no_feed in
    let back : (x == 13) ≡ false = differs x 13 token no_return in rw (feed, back) refl

skipped : (blank : List LineEnd) (x : ℕ) (rest : List ℕ) → is_token_byte x ≡ true → skip_blank (print_blank blank ++ x ∷ rest) ≡ x ∷ rest
skipped [] x rest token = stays x rest token
skipped (crlf ∷ blank) x rest token = skipped blank x rest token
skipped (lf ∷ []) x rest token = stays x rest token
skipped (lf ∷ crlf ∷ blank) x rest token = skipped (crlf ∷ blank) x rest token
skipped (lf ∷ lf ∷ blank) x rest token = skipped (lf ∷ blank) x rest token

-- ---- the whole scan

pub in_target : (bytes : List ℕ) → is_in_target bytes ≡ true → EndsInTarget bytes
in_target bytes e =
    let lines = blank_lines (length bytes) bytes (omega arith) in
    let r = found false (skip_blank bytes) e in
    (lines.0, r.0, r.1, (r.5 refl, r.2), r.3, lines.1 ∙ ap (λ (t : List ℕ). print_blank lines.0 ++ t) r.4 ∙ sym (append_assoc (print_blank lines.0) r.0 (32 ∷ r.1)))

pub seen_in_target : (bytes : List ℕ) → EndsInTarget bytes → is_in_target bytes ≡ true
seen_in_target bytes (blank, [], t, token, uri, is) = absurd (omega (arith, token.0))
seen_in_target bytes (blank, x ∷ m, t, token, uri, is) =
    let first = All-head (λ y. IsTrue (is_token_byte y)) x m token.1 in
    let whole : bytes ≡ print_blank blank ++ x ∷ (m ++ 32 ∷ t) = is ∙ append_assoc (print_blank blank) (x ∷ m) (32 ∷ t) in
    ap (λ (b : List ℕ). is_method_and_target false (skip_blank b)) whole ∙ ap (is_method_and_target false) (skipped blank x (m ++ 32 ∷ t) first)
    ∙ method_found (x ∷ m) t token.0 token.1 uri
