-- Numbering the edits of a bulk from the front: first one edit, then the others, from the number that was given last.
use Rattle.std.proofs.Common.{◌≡◌, ℕ, suc, ◌+◌, cond, List, [], ◌∷◌, Option, Some, None, is_none, is_some, filter, length, map, take, if◌then◌else◌, refl, ap, ap₂, ◌∙◌, arith}
use Rattle.std.specs.List.{enumerate_from}
use Rattle.mg_doc.specs.Document.{Edit}
use Rattle.mg_engine.specs.Bulk.{counter_after, kth_after, number_after, number_text, numbered, numbered_at, with_number}

-- the number that was given last, after an edit
abbrev pub last_after : ℕ → Edit → ℕ
last_after n e = if is_some e.id then n else number_after n

counter_by : (n : ℕ) (e : Edit) (es : List Edit) (id : Option (List ℕ)) → kth_after n (length (cond (is_none id) (e ∷ es) es)) ≡ kth_after (cond (is_some id) n (number_after n)) (length es)
counter_by n e es None = refl
counter_by n e es (Some id) = refl

-- the counter after one edit in front of others
pub counter_cons : (n : ℕ) (e : Edit) (es : List Edit) → counter_after n (e ∷ es) ≡ counter_after (last_after n e) es
counter_cons n e es = counter_by n e (filter (λ (f : Edit). is_none f.id) es) e.id

first_by : (n : ℕ) (e : Edit) (id : Option (List ℕ))
    → cond (is_some id) e (record e { id = Some (number_text (kth_after n (length (cond (is_none id) (e ∷ []) [])))) }) ≡ cond (is_some id) e (record e { id = Some (number_text (number_after n)) })
first_by n e None = refl
first_by n e (Some id) = refl

-- a map over edits with positions, where the positions begin one later
later_places : (f g : ℕ × Edit → Edit) → ((i : ℕ) (e : Edit) → f (suc i, e) ≡ g (i, e)) → (m : ℕ) (es : List Edit) → map f (enumerate_from (suc m) es) ≡ map g (enumerate_from m es)
later_places f g same m [] = refl
later_places f g same m (e ∷ es) =
    let next : suc m + 1 ≡ suc (m + 1) = omega arith in
    ap₂ (λ (d : Edit) (ds : List Edit). d ∷ ds) (same m e) (ap (λ (k : ℕ). map f (enumerate_from k es)) next ∙ later_places f g same (m + 1) es)

-- one edit in front of others, with numbers
pub numbered_cons : (n : ℕ) (e : Edit) (es : List Edit) → numbered n (e ∷ es) ≡ with_number (number_after n) e ∷ numbered (last_after n e) es
numbered_cons n e es =
    ap₂ (λ (d : Edit) (ds : List Edit). d ∷ ds) (first_by n e e.id)
    (later_places (numbered_at n (e ∷ es)) (numbered_at (last_after n e) es) (λ i d. ap (λ (k : ℕ). with_number k d) (counter_cons n e (take (suc i) es))) 0 es)
