-- The pieces of a text as they are found from left to right.
use Rattle.std.proofs.Common.{◌≡◌, ◌⊎◌, inl, inr, ℕ, ◌-◌, List, [], ◌∷◌, ◌++◌, Some, None, Bool, true, false, not, ◌&&◌, ◌||◌, cond, eqb, ltb, get_or, length, take, ◌≢◌, refl, ap, ap₂, subst, ◌∙◌, sym, append_assoc, append-nil, arith}
use Rattle.std.proofs.lemmas.Grind.{common_steps}
use Rattle.std.specs.List.{AllByRecursion, list_any}
use Rattle.std.proofs.lemmas.Bool.{eqb-true, ne_eqb}
use Rattle.std.proofs.Math.Utf8.{encode}
use Rattle.mg_path.specs.Part.{pieces_of, before_first_piece, is_empty, steps_of}

abbrev pub ends_in_backslash : List ℕ → Bool
ends_in_backslash step = eqb (get_or step (length step - 1) 0) 92

-- the pieces of a text, where `step` has been read of the first piece and the second argument is yet to be read
abbrev pub continued : List ℕ → List ℕ → List (List ℕ)
continued step [] = step ∷ []
continued step (c ∷ cs) =
    cond (eqb c 46)
    (cond (ends_in_backslash step) (continued (take (length step - 1) step ++ 46 ∷ []) cs) (step ∷ continued [] cs))
    (continued (step ++ c ∷ []) cs)

-- the pieces, with `step` put before the first
abbrev onto : List ℕ → List (List ℕ) → List (List ℕ)
onto step [] = step ∷ []
onto step (piece ∷ pieces) = (step ++ piece) ∷ pieces

onto-before_first_piece : (step : List ℕ) (c : ℕ) (pieces : List (List ℕ)) → onto (step ++ c ∷ []) pieces ≡ onto step (before_first_piece c pieces)
onto-before_first_piece step c [] = refl
onto-before_first_piece step c (piece ∷ pieces) = ap (λ s. s ∷ pieces) (append_assoc step (c ∷ []) piece)

onto-nil-before : (c : ℕ) (pieces : List (List ℕ)) → onto [] (before_first_piece c pieces) ≡ before_first_piece c pieces
onto-nil-before c [] = refl
onto-nil-before c (piece ∷ pieces) = refl

onto-nil-cond : (a b : Bool) (c d : ℕ) (before after : List (List ℕ))
    → onto [] (cond a ([] ∷ before) (cond b (before_first_piece d after) (before_first_piece c before))) ≡ cond a ([] ∷ before) (cond b (before_first_piece d after) (before_first_piece c before))
onto-nil-cond true b c d before after = refl
onto-nil-cond false true c d before after = onto-nil-before d after
onto-nil-cond false false c d before after = onto-nil-before c before

onto-nil-last : (a : Bool) (c : ℕ) → onto [] (cond a ([] ∷ [] ∷ []) ((c ∷ []) ∷ [])) ≡ cond a ([] ∷ [] ∷ []) ((c ∷ []) ∷ [])
onto-nil-last true c = refl
onto-nil-last false c = refl

onto-nil : (cs : List ℕ) → onto [] (pieces_of cs) ≡ pieces_of cs
onto-nil [] = refl
onto-nil (c ∷ []) = onto-nil-last (eqb c 46) c
onto-nil (c ∷ d ∷ cs) = onto-nil-cond (eqb c 46) (eqb c 92 && eqb d 46) c d (pieces_of (d ∷ cs)) (pieces_of cs)

-- the pieces by the first character: a dot, a plain character, or a backslash that escapes no dot
pieces_of-dot : (cs : List ℕ) → pieces_of (46 ∷ cs) ≡ [] ∷ pieces_of cs
pieces_of-dot [] = refl
pieces_of-dot (d ∷ cs) = refl

pieces_of-plain : (c : ℕ) (cs : List ℕ) → eqb c 46 ≡ false → eqb c 92 ≡ false → pieces_of (c ∷ cs) ≡ before_first_piece c (pieces_of cs)
pieces_of-plain c [] h k = rw h refl
pieces_of-plain c (d ∷ cs) h k = rw (h, k) refl

pieces_of-backslash : (c : ℕ) (cs : List ℕ) → eqb c 46 ≡ false → pieces_of (92 ∷ c ∷ cs) ≡ before_first_piece 92 (pieces_of (c ∷ cs))
pieces_of-backslash c cs h = rw h refl

same_go : (a b : ℕ) (t : Bool) → eqb a b ≡ t → (a ≡ b) ⊎ (eqb a b ≡ false)
same_go a b true e = inl (eqb-true a b e)
same_go a b false e = inr e

same_or : (a b : ℕ) → (a ≡ b) ⊎ (eqb a b ≡ false)
same_or a b = same_go a b (eqb a b) refl

last-snoc : (s : List ℕ) (c : ℕ) → get_or (s ++ c ∷ []) (length (s ++ c ∷ []) - 1) 0 ≡ c
last-snoc s c = grind (arith, common_steps)

front-snoc : (s : List ℕ) (c : ℕ) → take (length (s ++ c ∷ []) - 1) (s ++ c ∷ []) ≡ s
front-snoc s c = grind (arith, common_steps)

ends-snoc : (s : List ℕ) (c : ℕ) → eqb c 92 ≡ false → ends_in_backslash (s ++ c ∷ []) ≡ false
ends-snoc s c h = rw (last-snoc s c) h

mutual
  continued_plain : (rest step : List ℕ) → ends_in_backslash step ≡ false → continued step rest ≡ onto step (pieces_of rest)
  continued_plain [] step h = ap (λ s. s ∷ []) (sym (append-nil step))
  continued_plain (c ∷ cs) step h = elim (same_or c 46) as (λ _. continued step (c ∷ cs) ≡ onto step (pieces_of (c ∷ cs))) [
    | inl dot ↦ subst (λ x. continued step (x ∷ cs) ≡ onto step (pieces_of (x ∷ cs))) (sym dot)
        (rw (h, pieces_of-dot cs) (ap₂ (λ s ps. s ∷ ps) (sym (append-nil step)) (continued_plain cs [] refl ∙ onto-nil cs)))
    | inr no_dot ↦ elim (same_or c 92) as (λ _. continued step (c ∷ cs) ≡ onto step (pieces_of (c ∷ cs))) [
      | inl backslash ↦ subst (λ x. continued step (x ∷ cs) ≡ onto step (pieces_of (x ∷ cs))) (sym backslash) (continued_backslash cs step)
      | inr no_backslash ↦ rw (pieces_of-plain c cs no_dot no_backslash, no_dot)
          (continued_plain cs (step ++ c ∷ []) (ends-snoc step c no_backslash) ∙ onto-before_first_piece step c (pieces_of cs))
    ]
  ]

  continued_backslash : (rest step : List ℕ) → continued (step ++ 92 ∷ []) rest ≡ onto step (pieces_of (92 ∷ rest))
  continued_backslash [] step = refl
  continued_backslash (c ∷ cs) step = elim (same_or c 46) as (λ _. continued (step ++ 92 ∷ []) (c ∷ cs) ≡ onto step (pieces_of (92 ∷ c ∷ cs))) [
    | inl dot ↦ let escaped : ends_in_backslash (step ++ 92 ∷ []) ≡ true = rw (last-snoc step 92) refl in
        rw (dot, escaped, front-snoc step 92) (continued_plain cs (step ++ 46 ∷ []) (ends-snoc step 46 refl) ∙ onto-before_first_piece step 46 (pieces_of cs))
    | inr no_dot ↦ elim (same_or c 92) as (λ _. continued (step ++ 92 ∷ []) (c ∷ cs) ≡ onto step (pieces_of (92 ∷ c ∷ cs))) [
      | inl backslash ↦ subst (λ x. continued (step ++ 92 ∷ []) (x ∷ cs) ≡ onto step (pieces_of (92 ∷ x ∷ cs))) (sym backslash)
          (continued_backslash cs (step ++ 92 ∷ []) ∙ onto-before_first_piece step 92 (pieces_of (92 ∷ cs)))
      | inr no_backslash ↦ rw (pieces_of-backslash c cs no_dot, pieces_of-plain c cs no_dot no_backslash, no_dot)
          (continued_plain cs ((step ++ 92 ∷ []) ++ c ∷ []) (ends-snoc (step ++ 92 ∷ []) c no_backslash) ∙ onto-before_first_piece (step ++ 92 ∷ []) c (pieces_of cs)
          ∙ onto-before_first_piece step 92 (before_first_piece c (pieces_of cs)))
    ]
  ]

-- at the start, with nothing read, the pieces are those of the text
pub continued-start : (t : List ℕ) → continued [] t ≡ pieces_of t
continued-start t = continued_plain t [] refl ∙ onto-nil t

-- without a dot, what is yet to be read joins the step
continued-no_dot : (t step : List ℕ) → list_any (λ c. eqb c 46) t ≡ false → continued step t ≡ (step ++ t) ∷ []
continued-no_dot [] step h = ap (λ s. s ∷ []) (sym (append-nil step))
continued-no_dot (c ∷ cs) step h = elim (same_or c 46) as (λ _. continued step (c ∷ cs) ≡ (step ++ c ∷ cs) ∷ []) [
  | inl dot ↦ let contradiction = rw dot at h in cc
  | inr no_dot ↦ rw no_dot (continued-no_dot cs (step ++ c ∷ []) (rw no_dot at h) ∙ ap (λ s. s ∷ []) (append_assoc step (c ∷ []) cs))
]

-- a text without a dot is its only piece
pub pieces_of-no_dot : (t : List ℕ) → list_any (λ c. eqb c 46) t ≡ false → pieces_of t ≡ t ∷ []
pieces_of-no_dot t h = sym (continued-start t) ∙ continued-no_dot t [] h

-- whether any piece is empty, given whether the piece begun is empty and whether it ends in a backslash, and what is left of the text
abbrev pub empty_from : Bool → Bool → List ℕ → Bool
empty_from empty escaped [] = empty
empty_from empty escaped (c ∷ cs) = cond (not (eqb c 46) || escaped) (empty_from false (eqb c 92) cs) (empty || empty_from true false cs)

or_false : (b : Bool) → b ≡ (b || false)
or_false true = refl
or_false false = refl

is_empty-snoc : (step : List ℕ) (c : ℕ) → is_empty (step ++ c ∷ []) ≡ false
is_empty-snoc [] c = refl
is_empty-snoc (x ∷ step) c = refl

-- with `rest` left, `empty_from` is right for every piece that may have been begun
abbrev Decides : List ℕ → Type 0
Decides rest = (step : List ℕ) → empty_from (is_empty step) (ends_in_backslash step) rest ≡ list_any is_empty (continued step rest)

decides_after : (cs step : List ℕ) (c : ℕ) → Decides cs → empty_from false (eqb c 92) cs ≡ list_any is_empty (continued (step ++ c ∷ []) cs)
decides_after cs step c decides = ap₂ (λ b x. empty_from b (eqb x 92) cs) (sym (is_empty-snoc step c)) (sym (last-snoc step c)) ∙ decides (step ++ c ∷ [])

-- an escaped dot joins the piece, and any other dot ends it
decides_at_dot : (cs step : List ℕ) (escaped : Bool) → Decides cs
    → cond (false || escaped) (empty_from false false cs) (is_empty step || empty_from true false cs)
    ≡ list_any is_empty (cond escaped (continued (take (length step - 1) step ++ 46 ∷ []) cs) (step ∷ continued [] cs))
decides_at_dot cs step true decides = decides_after cs (take (length step - 1) step) 46 decides
decides_at_dot cs step false decides = ap (λ b. is_empty step || b) (decides [])

decides_all : (rest : List ℕ) → Decides rest
decides_all [] step = or_false (is_empty step)
decides_all (c ∷ cs) step = elim (same_or c 46) as (λ _. empty_from (is_empty step) (ends_in_backslash step) (c ∷ cs) ≡ list_any is_empty (continued step (c ∷ cs))) [
  | inl dot ↦ rw dot (decides_at_dot cs step (ends_in_backslash step) (decides_all cs))
  | inr no_dot ↦ rw no_dot (decides_after cs step c (decides_all cs))
]

-- at the start, `empty_from` decides for the whole text
pub empty_from-start : (t : List ℕ) → list_any is_empty (pieces_of t) ≡ empty_from true false t
empty_from-start t = ap (λ ps. list_any is_empty ps) (sym (continued-start t)) ∙ sym (decides_all t [])

-- bytes other than a dot join the step
continued-plain_bytes : (xs : List ℕ) (step rest : List ℕ) → AllByRecursion (λ x. x ≢ 46) xs → continued step (xs ++ rest) ≡ continued (step ++ xs) rest
continued-plain_bytes [] step rest h = ap (λ s. continued s rest) (sym (append-nil step))
continued-plain_bytes (x ∷ xs) step rest h =
    rw (ne_eqb x 46 h.0) (continued-plain_bytes xs (step ++ x ∷ []) rest h.1 ∙ ap (λ s. continued s rest) (append_assoc step (x ∷ []) xs))

cond_cases : (P : List ℕ → Type 0) (a b d : Bool) (x y z w : List ℕ) → P x → P y → P z → P w → P (cond a x (cond b y (cond d z w)))
cond_cases P true b d x y z w p q r s = p
cond_cases P false true d x y z w p q r s = q
cond_cases P false false true x y z w p q r s = r
cond_cases P false false false x y z w p q r s = s

-- no byte of a character other than a dot is a dot
encode-no_dot : (c : ℕ) → c ≢ 46 → AllByRecursion (λ x. x ≢ 46) (encode c)
unfolding encode
encode-no_dot c h =
    cond_cases (AllByRecursion (λ x. x ≢ 46)) (ltb c 128) (ltb c 2048) (ltb c 65536) _ _ _ _
    (h, tt)
    ((λ e. omega arith), ((λ e. omega arith), tt))
    ((λ e. omega arith), ((λ e. omega arith), ((λ e. omega arith), tt)))
    ((λ e. omega arith), ((λ e. omega arith), ((λ e. omega arith), ((λ e. omega arith), tt))))

-- a character other than a dot joins the step
pub continued-letter : (c : ℕ) (step rest : List ℕ) → c ≢ 46 → continued step (encode c ++ rest) ≡ continued (step ++ encode c) rest
continued-letter c step rest h = continued-plain_bytes (encode c) step rest (encode-no_dot c h)

-- there are no steps where a piece is empty; otherwise the steps are the pieces
pub steps_of-none : (t : List ℕ) → list_any is_empty (pieces_of t) ≡ true → steps_of t ≡ None
steps_of-none t h = rw h refl

pub steps_of-some : (t : List ℕ) → list_any is_empty (pieces_of t) ≡ false → steps_of t ≡ Some (pieces_of t)
steps_of-some t h = rw h refl

-- at the end the step that was begun is the last piece
pub continued-end : (step rest : List ℕ) → length rest ≡ 0 → continued step rest ≡ step ∷ []
continued-end step [] h = refl
continued-end step (c ∷ cs) h = absurd (omega arith)
