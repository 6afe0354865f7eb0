-- Texts have the same order by their UTF-8 bytes as by their code points.
use Rattle.std.proofs.Common.{◌≡◌, ℕ, ◌+◌, ◌/◌, ◌%◌, ◌<◌, ◌≤◌, inl, inr, List, [], ◌∷◌, ◌++◌, Ordering, Less, Equal, Greater, nat_cmp, refl, sym, ap, ◌∙◌, lt-ltb, le-ltb, arith}
use Rattle.std.proofs.Math.Nat.{div-div-eq-div-mul}
use Rattle.std.proofs.lemmas.Bool.{cond-true, cond-false, cases_lt}
use Rattle.std.proofs.lemmas.Cmp.{ranked, nat_cmp_total, nat_list_cmp_total, tied_itself}
use Rattle.std.proofs.lemmas.Str.{encode_ascii}
use Rattle.std.specs.Char.{encode_utf8}
use Rattle.std.specs.Cmp.{nat_cmp_is}
use Rattle.std.specs.Cmp.Lexicographic.{slice_cmp}
use Rattle.std.specs.Ordering.{MatchOrdering, ordering_then, ordering_reverse}
use Rattle.std.specs.Str.{encode_utf8_all}

encode_two : (c : ℕ) → 128 ≤ c → c < 2048 → encode_utf8 c ≡ (192 + c / 64) ∷ (128 + c % 64) ∷ []
unfolding encode_utf8
encode_two c low high = cond-false _ _ _ (le-ltb c 128 low) ∙ cond-true _ _ _ (lt-ltb c 2048 high)

encode_three : (c : ℕ) → 2048 ≤ c → c < 65536 → encode_utf8 c ≡ (224 + c / 4096) ∷ (128 + (c / 64) % 64) ∷ (128 + c % 64) ∷ []
unfolding encode_utf8
encode_three c low high = cond-false _ _ _ (le-ltb c 128 (omega arith)) ∙ cond-false _ _ _ (le-ltb c 2048 low) ∙ cond-true _ _ _ (lt-ltb c 65536 high)

encode_four : (c : ℕ) → 65536 ≤ c → encode_utf8 c ≡ (240 + c / 262144) ∷ (128 + (c / 4096) % 64) ∷ (128 + (c / 64) % 64) ∷ (128 + c % 64) ∷ []
unfolding encode_utf8
encode_four c low = cond-false _ _ _ (le-ltb c 128 (omega arith)) ∙ cond-false _ _ _ (le-ltb c 2048 (omega arith)) ∙ cond-false _ _ _ (le-ltb c 65536 low)

-- the UTF-8 bytes of a character, by their number
data Bytes (c : ℕ) : Type 0 where
  one : c < 128 → encode_utf8 c ≡ c ∷ [] → Bytes c
  two : 128 ≤ c → c < 2048 → encode_utf8 c ≡ (192 + c / 64) ∷ (128 + c % 64) ∷ [] → Bytes c
  three : 2048 ≤ c → c < 65536 → encode_utf8 c ≡ (224 + c / 4096) ∷ (128 + (c / 64) % 64) ∷ (128 + c % 64) ∷ [] → Bytes c
  four : 65536 ≤ c → encode_utf8 c ≡ (240 + c / 262144) ∷ (128 + (c / 4096) % 64) ∷ (128 + (c / 64) % 64) ∷ (128 + c % 64) ∷ [] → Bytes c

bytes_of : (c : ℕ) → Bytes c
bytes_of c =
    elim (cases_lt c 128) [
      | inl h ↦ one h (encode_ascii c h)
      | inr h ↦ elim (cases_lt c 2048) [
        | inl k ↦ two h k (encode_two c h k)
        | inr k ↦ elim (cases_lt c 65536) [
          | inl l ↦ three k l (encode_three c k l)
          | inr l ↦ four l (encode_four c l)
        ]
      ]
    ]

first_below : (x y : ℕ) (s t : List ℕ) → x < y → slice_cmp nat_cmp (x ∷ s) (y ∷ t) ≡ Less
first_below x y s t h = ap (λ o. ordering_then o (slice_cmp nat_cmp s t)) (sym (nat_cmp_is x y Less h))

first_same : (x y : ℕ) (s t : List ℕ) → x ≡ y → slice_cmp nat_cmp s t ≡ Less → slice_cmp nat_cmp (x ∷ s) (y ∷ t) ≡ Less
first_same x y s t e h = ap (λ o. ordering_then o (slice_cmp nat_cmp s t)) (sym (nat_cmp_is x y Equal e)) ∙ h

-- the first bytes decide, or the next where they are equal
then_next : (x y : ℕ) (s t : List ℕ) → x ≤ y → (x ≡ y → slice_cmp nat_cmp s t ≡ Less) → slice_cmp nat_cmp (x ∷ s) (y ∷ t) ≡ Less
then_next x y s t h next = elim (cases_lt x y) [ inl k ↦ first_below x y s t k | inr k ↦ let e : x ≡ y = omega arith in first_same x y s t e (next e) ]

two_bytes : (c d : ℕ) (s t : List ℕ) → c < d → slice_cmp nat_cmp ((192 + c / 64) ∷ (128 + c % 64) ∷ s) ((192 + d / 64) ∷ (128 + d % 64) ∷ t) ≡ Less
two_bytes c d s t h = then_next (192 + c / 64) (192 + d / 64) ((128 + c % 64) ∷ s) ((128 + d % 64) ∷ t) (omega arith) (λ e. first_below (128 + c % 64) (128 + d % 64) s t (omega (arith, e)))

three_bytes : (c d : ℕ) (s t : List ℕ) → c < d → slice_cmp nat_cmp ((224 + c / 4096) ∷ (128 + (c / 64) % 64) ∷ (128 + c % 64) ∷ s) ((224 + d / 4096) ∷ (128 + (d / 64) % 64) ∷ (128 + d % 64) ∷ t) ≡ Less
three_bytes c d s t h =
    let high : c / 64 / 64 ≡ c / 4096 = div-div-eq-div-mul c 64 64 in
    let higher : d / 64 / 64 ≡ d / 4096 = div-div-eq-div-mul d 64 64 in
    then_next (224 + c / 4096) (224 + d / 4096) ((128 + (c / 64) % 64) ∷ (128 + c % 64) ∷ s) ((128 + (d / 64) % 64) ∷ (128 + d % 64) ∷ t) (omega arith)
    (λ e. then_next (128 + (c / 64) % 64) (128 + (d / 64) % 64) ((128 + c % 64) ∷ s) ((128 + d % 64) ∷ t) (omega (arith, e))
    (λ f. first_below (128 + c % 64) (128 + d % 64) s t (omega (arith, e, f))))

four_bytes : (c d : ℕ) (s t : List ℕ) → c < d → slice_cmp nat_cmp ((240 + c / 262144) ∷ (128 + (c / 4096) % 64) ∷ (128 + (c / 64) % 64) ∷ (128 + c % 64) ∷ s) ((240 + d / 262144) ∷ (128 + (d / 4096) % 64) ∷ (128 + (d / 64) % 64) ∷ (128 + d % 64) ∷ t) ≡ Less
four_bytes c d s t h =
    let high : c / 64 / 64 ≡ c / 4096 = div-div-eq-div-mul c 64 64 in
    let higher : d / 64 / 64 ≡ d / 4096 = div-div-eq-div-mul d 64 64 in
    let top : c / 4096 / 64 ≡ c / 262144 = div-div-eq-div-mul c 4096 64 in
    let topmost : d / 4096 / 64 ≡ d / 262144 = div-div-eq-div-mul d 4096 64 in
    then_next (240 + c / 262144) (240 + d / 262144) ((128 + (c / 4096) % 64) ∷ (128 + (c / 64) % 64) ∷ (128 + c % 64) ∷ s) ((128 + (d / 4096) % 64) ∷ (128 + (d / 64) % 64) ∷ (128 + d % 64) ∷ t) (omega arith)
    (λ e. then_next (128 + (c / 4096) % 64) (128 + (d / 4096) % 64) ((128 + (c / 64) % 64) ∷ (128 + c % 64) ∷ s) ((128 + (d / 64) % 64) ∷ (128 + d % 64) ∷ t) (omega (arith, e))
    (λ f. then_next (128 + (c / 64) % 64) (128 + (d / 64) % 64) ((128 + c % 64) ∷ s) ((128 + d % 64) ∷ t) (omega (arith, e, f))
    (λ g. first_below (128 + c % 64) (128 + d % 64) s t (omega (arith, e, f, g)))))

below : (c d : ℕ) (s t : List ℕ) → Bytes c → Bytes d → c < d → slice_cmp nat_cmp (encode_utf8 c ++ s) (encode_utf8 d ++ t) ≡ Less
below c d s t (one a e) (one b f) h = rw (e, f) (first_below c d s t h)
below c d s t (one a e) (two b k f) h = rw (e, f) (first_below c (192 + d / 64) s ((128 + d % 64) ∷ t) (omega arith))
below c d s t (one a e) (three b k f) h = rw (e, f) (first_below c (224 + d / 4096) s ((128 + (d / 64) % 64) ∷ (128 + d % 64) ∷ t) (omega arith))
below c d s t (one a e) (four b f) h = rw (e, f) (first_below c (240 + d / 262144) s ((128 + (d / 4096) % 64) ∷ (128 + (d / 64) % 64) ∷ (128 + d % 64) ∷ t) (omega arith))
below c d s t (two a l e) (one b f) h = absurd (omega arith)
below c d s t (two a l e) (two b k f) h = rw (e, f) (two_bytes c d s t h)
below c d s t (two a l e) (three b k f) h = rw (e, f) (first_below (192 + c / 64) (224 + d / 4096) ((128 + c % 64) ∷ s) ((128 + (d / 64) % 64) ∷ (128 + d % 64) ∷ t) (omega arith))
below c d s t (two a l e) (four b f) h = rw (e, f) (first_below (192 + c / 64) (240 + d / 262144) ((128 + c % 64) ∷ s) ((128 + (d / 4096) % 64) ∷ (128 + (d / 64) % 64) ∷ (128 + d % 64) ∷ t) (omega arith))
below c d s t (three a l e) (one b f) h = absurd (omega arith)
below c d s t (three a l e) (two b k f) h = absurd (omega arith)
below c d s t (three a l e) (three b k f) h = rw (e, f) (three_bytes c d s t h)
below c d s t (three a l e) (four b f) h = rw (e, f) (first_below (224 + c / 4096) (240 + d / 262144) ((128 + (c / 64) % 64) ∷ (128 + c % 64) ∷ s) ((128 + (d / 4096) % 64) ∷ (128 + (d / 64) % 64) ∷ (128 + d % 64) ∷ t) (omega arith))
below c d s t (four a e) (one b f) h = absurd (omega arith)
below c d s t (four a e) (two b k f) h = absurd (omega arith)
below c d s t (four a e) (three b k f) h = absurd (omega arith)
below c d s t (four a e) (four b f) h = rw (e, f) (four_bytes c d s t h)

same_front : (p s t : List ℕ) → slice_cmp nat_cmp (p ++ s) (p ++ t) ≡ slice_cmp nat_cmp s t
same_front [] s t = refl
same_front (x ∷ p) s t = ap (λ o. ordering_then o (slice_cmp nat_cmp (p ++ s) (p ++ t))) (tied_itself nat_cmp_total x) ∙ same_front p s t

character_at : (c d : ℕ) (s t : List ℕ) (o : Ordering) → MatchOrdering o (c < d) (c ≡ d) (d < c) → slice_cmp nat_cmp (encode_utf8 c ++ s) (encode_utf8 d ++ t) ≡ ordering_then o (slice_cmp nat_cmp s t)
character_at c d s t Less h = below c d s t (bytes_of c) (bytes_of d) h
character_at c d s t Equal h = ap (λ x. slice_cmp nat_cmp (encode_utf8 x ++ s) (encode_utf8 d ++ t)) h ∙ same_front (encode_utf8 d) s t
character_at c d s t Greater h =
    nat_list_cmp_total.antisymm (encode_utf8 c ++ s) (encode_utf8 d ++ t) ∙ ap ordering_reverse (below d c t s (bytes_of d) (bytes_of c) h)

none_first : (d : ℕ) (t : List ℕ) → Bytes d → slice_cmp nat_cmp [] (encode_utf8 d ++ t) ≡ Less
none_first d t (one b f) = rw f
none_first d t (two b k f) = rw f
none_first d t (three b k f) = rw f
none_first d t (four b f) = rw f

pub by_code_point : (cs ds : List ℕ) → slice_cmp nat_cmp (encode_utf8_all cs) (encode_utf8_all ds) ≡ slice_cmp nat_cmp cs ds
by_code_point [] [] = refl
by_code_point [] (d ∷ ds) = none_first d (encode_utf8_all ds) (bytes_of d)
by_code_point (c ∷ cs) [] = nat_list_cmp_total.antisymm (encode_utf8_all (c ∷ cs)) [] ∙ ap ordering_reverse (none_first c (encode_utf8_all cs) (bytes_of c))
by_code_point (c ∷ cs) (d ∷ ds) = character_at c d (encode_utf8_all cs) (encode_utf8_all ds) (nat_cmp c d) (ranked c d (nat_cmp c d) refl) ∙ ap (ordering_then (nat_cmp c d)) (by_code_point cs ds)
