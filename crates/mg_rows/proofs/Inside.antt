-- Bytes that are written one after another.
use Rattle.std.proofs.Common.{◌≡◌, ℕ, zero, suc, ◌+◌, ◌-◌, ◌<◌, ◌≤◌, List, [], ◌∷◌, ◌++◌, length, take, drop, slice_set, set, get_or, map, refl, sym, ap, ap₂, ◌∙◌, append_assoc, arith, length-append, length-drop}
use borrow.Rule.Slice.PartMut.{put_mid}
use Rattle.std.proofs.lemmas.List.{take_at, take_all, take_more_set, drop_at, length-set, length-map}
use Rattle.std.proofs.lemmas.Slice.{take-put_mid}
use Rattle.mg_rows.specs.Bytes.{text_before}

pub inside_bytes : (front back x y zs : List ℕ) (last n k : ℕ) → x ≡ front → y ≡ back → length front < length zs → n ≡ length front + 1 + length back
    → take n (put_mid (length front + 1) k (slice_set (x ++ drop (length front) zs) (length front) last) y) ≡ front ++ last ∷ [] ++ back
inside_bytes front back x y zs last n k e f room at =
    let same : length x ≡ length front = ap length e in
    let room2 : length front < length (x ++ drop (length front) zs) = omega (arith, room, same, length-append x (drop (length front) zs), length-drop (length front) zs) in
    let room3 : length front + 1 ≤ length (slice_set (x ++ drop (length front) zs) (length front) last) = omega (arith, room2, length-set (x ++ drop (length front) zs) (length front) last) in
    take-put_mid (length front + 1) k (slice_set (x ++ drop (length front) zs) (length front) last) y n (omega (arith, at, ap length f)) room3
    ∙ ap₂ ◌++◌ (take_more_set (x ++ drop (length front) zs) (length front) last room2 ∙ ap (λ s. s ++ last ∷ []) (take_at x (drop (length front) zs) (length front) same ∙ e)) f

-- ---- bytes to each of which 1 is added, one after another

-- the bytes, with 1 added to each of the first i
abbrev pub raised : ℕ → List ℕ → List ℕ
raised i s = map suc (take i s) ++ drop i s

pub raised_at : (s : List ℕ) (i : ℕ) → i < length s → get_or (raised i s) i 0 ≡ get_or s i 0
raised_at [] i h = absurd (omega (arith, h))
raised_at (x ∷ s) zero h = refl
raised_at (x ∷ s) (suc i) h = raised_at s i (omega (arith, h))

pub raised_more : (s : List ℕ) (i b : ℕ) → i < length s → b ≡ suc (get_or s i 0) → set (raised i s) i b ≡ raised (suc i) s
raised_more [] i b h e = absurd (omega (arith, h))
raised_more (x ∷ s) zero b h e = ap (λ y. y ∷ s) e
raised_more (x ∷ s) (suc i) b h e = ap (λ y. suc x ∷ y) (raised_more s i b (omega (arith, h)) e)

pub raised_all : (s : List ℕ) (i : ℕ) → length s ≤ i → raised i s ≡ map suc s
raised_all [] zero h = refl
raised_all [] (suc i) h = refl
raised_all (x ∷ s) zero h = absurd (omega (arith, h))
raised_all (x ∷ s) (suc i) h = ap (λ y. suc x ∷ y) (raised_all s i (omega (arith, h)))

-- a text is stored as its bytes, each plus 1, and then 0
pub text_raised : (s rest : List ℕ) → map suc s ++ 0 ∷ rest ≡ text_before s rest
text_raised [] rest = refl
text_raised (b ∷ s) rest = ap (λ y. suc b ∷ y) (text_raised s rest)

-- what follows the front of a buffer is the text that was appended to the front
pub part_behind : (all front text : List ℕ) (start : ℕ) → all ≡ front ++ text → start ≡ length front → take (length all - start) (drop start all) ≡ text
part_behind all front text start e h =
    ap (λ s. take (length s - start) (drop start s)) e ∙ ap (take (length (front ++ text) - start)) (drop_at front text start (sym h))
    ∙ take_all (length (front ++ text) - start) text (omega (arith, h, length-append front text))

joined_cut : (x y more after : List ℕ) (n : ℕ) → length (x ++ y) ≡ n → take n (x ++ (y ++ more) ++ after) ≡ x ++ y
joined_cut x y more after n h = ap (take n) (ap (λ s. s ++ after) (sym (append_assoc x y more)) ∙ append_assoc (x ++ y) more after) ∙ take_at (x ++ y) (more ++ after) n h

-- after 1 is added to each byte of that text, the front is followed by the raised text
pub raised_behind : (all front text part more after : List ℕ) (start n : ℕ) → all ≡ front ++ text → start ≡ length front → part ≡ map suc text → length all ≡ n
    → take n (take start all ++ (part ++ more) ++ after) ≡ front ++ map suc text
raised_behind all front text part more after start n e h f size =
    let same : take start all ++ part ≡ front ++ map suc text = ap₂ ◌++◌ (ap (take start) e ∙ take_at front text start (sym h)) f in
    let long : length (take start all ++ part) ≡ n = omega (arith, ap length same, length-append front (map suc text), length-map text suc, length-append front text, ap length e, size) in
    joined_cut (take start all) part more after n long ∙ same
