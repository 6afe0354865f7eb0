-- The marks of a container's tables: where each is, and what is read from it.
use Rattle.std.proofs.Common.{◌≡◌, ℕ, zero, suc, ◌+◌, ◌*◌, ◌-◌, ◌/◌, ◌%◌, ◌≤◌, ◌<◌, ◌^◌, ◌==◌, List, [], ◌∷◌, ◌++◌, length, drop, get_or, Bool, true, false, refl, sym, ap, ap₂, ◌∙◌, arith, append_assoc, append-nil, length-append}
use Rattle.std.proofs.lemmas.Bool.{eq-eqb, ne_eqb}
use Rattle.std.proofs.lemmas.List.{drop_at, drop-drop}
use Rattle.mg_packed.specs.declared.mark.Mark.{Mark}
use Rattle.mg_packed.specs.Tables.{word, half, mark_bytes, all_bytes, head}
use Rattle.mg_packed.specs.Read.{word_of, half_of, head_of, pieces_of, wide_of, marks_len, begin_of, at_in, deep_in, at_of, deep_of, HasHead, HasMark}
use Rattle.mg_packed.proofs.Words.{length-word, length-half, word_of-word, half_of-half, behind}

-- a mark with these places
abbrev pub mark : ℕ → ℕ → Mark
mark a d = record { at = a; deep = d }

pub mark_same : (a b d e : ℕ) → a ≡ b → d ≡ e → mark a d ≡ mark b e
mark_same a b d e p q = ap₂ (λ x y. mark x y) p q

abbrev pub nth_mark : List Mark → ℕ → Mark
nth_mark ms i = get_or ms i (mark 0 0)

length-mark_bytes : (wide : Bool) (m : Mark) → length (mark_bytes wide m) ≡ marks_len wide 1
length-mark_bytes true m = omega (arith, length-append (word m.at) (word m.deep), length-word m.at, length-word m.deep)
length-mark_bytes false m = omega (arith, length-append (half m.at) (half m.deep), length-half m.at, length-half m.deep)

pub length-all_bytes : (wide : Bool) (ms : List Mark) → length (all_bytes wide ms) ≡ marks_len wide (length ms)
length-all_bytes true [] = refl
length-all_bytes true (m ∷ ms) = omega (arith, length-append (mark_bytes true m) (all_bytes true ms), length-mark_bytes true m, length-all_bytes true ms)
length-all_bytes false [] = refl
length-all_bytes false (m ∷ ms) = omega (arith, length-append (mark_bytes false m) (all_bytes false ms), length-mark_bytes false m, length-all_bytes false ms)

mark_next : (wide : Bool) (m : Mark) (ms : List Mark) (tail : List ℕ) (n size k : ℕ) → length (mark_bytes wide m) ≡ size → n ≡ size + k → drop n (all_bytes wide (m ∷ ms) ++ tail) ≡ drop k (all_bytes wide ms ++ tail)
mark_next wide m ms tail n size k long e =
    ap (λ x. drop x (all_bytes wide (m ∷ ms) ++ tail)) e ∙ ap (drop (size + k)) (append_assoc (mark_bytes wide m) (all_bytes wide ms) tail) ∙ behind (mark_bytes wide m) (all_bytes wide ms ++ tail) size k long

mark_at : (wide : Bool) (ms : List Mark) (i : ℕ) (tail : List ℕ) → i < length ms → (more : List ℕ) × (drop (marks_len wide i) (all_bytes wide ms ++ tail) ≡ mark_bytes wide (nth_mark ms i) ++ more)
mark_at wide [] i tail h = absurd (omega arith)
mark_at true (m ∷ ms) zero tail h = (all_bytes true ms ++ tail, append_assoc (mark_bytes true m) (all_bytes true ms) tail)
mark_at false (m ∷ ms) zero tail h = (all_bytes false ms ++ tail, append_assoc (mark_bytes false m) (all_bytes false ms) tail)
mark_at true (m ∷ ms) (suc i) tail h =
    let p = mark_at true ms i tail (omega arith) in
    (p.0, mark_next true m ms tail (8 * suc i) 8 (8 * i) (length-mark_bytes true m) (omega arith) ∙ p.1)
mark_at false (m ∷ ms) (suc i) tail h =
    let p = mark_at false ms i tail (omega arith) in
    (p.0, mark_next false m ms tail (4 * suc i) 4 (4 * i) (length-mark_bytes false m) (omega arith) ∙ p.1)

-- ---- the tables of a container: those of its pieces, its marks, and its head

pub record IsTable (t d : List ℕ) (ms : List Mark) (n : ℕ) (wide : Bool) : Type 0 where
  pub is : t ≡ d ++ (all_bytes wide ms ++ word (head n wide))
  pub counted : length ms ≡ suc n
  pub low : length t < 2 ^ 32

table_length : (t d : List ℕ) (ms : List Mark) (n : ℕ) (wide : Bool) → IsTable t d ms n wide → length t ≡ length d + marks_len wide (n + 1) + 4
table_length t d ms n true h =
    omega (arith, ap length h.is, h.counted, length-append d (all_bytes true ms ++ word (head n true)), length-append (all_bytes true ms) (word (head n true)), length-all_bytes true ms, length-word (head n true))
table_length t d ms n false h =
    omega (arith, ap length h.is, h.counted, length-append d (all_bytes false ms ++ word (head n false)), length-append (all_bytes false ms) (word (head n false)), length-all_bytes false ms, length-word (head n false))

head_small : (t d : List ℕ) (ms : List Mark) (n : ℕ) (wide : Bool) → IsTable t d ms n wide → head n wide < 2 ^ 32
head_small t d ms n true h = omega (arith, h.low, table_length t d ms n true h)
head_small t d ms n false h = omega (arith, h.low, table_length t d ms n false h)

-- a head has room for the count
few_by : (n : ℕ) (wide : Bool) → head n wide < 2 ^ 32 → n < 2 ^ 31
few_by n true h = omega arith
few_by n false h = omega arith

pub few : (t d : List ℕ) (ms : List Mark) (n : ℕ) (wide : Bool) → IsTable t d ms n wide → n < 2 ^ 31
few t d ms n wide h = few_by n wide (head_small t d ms n wide h)

table_head : (t d : List ℕ) (ms : List Mark) (n : ℕ) (wide : Bool) → IsTable t d ms n wide → head_of t ≡ head n wide
table_head t d ms n wide h =
    let front = d ++ all_bytes wide ms in
    let last = word (head n wide) in
    let split : t ≡ front ++ last = h.is ∙ sym (append_assoc d (all_bytes wide ms) last) in
    let place : length t - 4 ≡ length front = omega (arith, ap length split, length-append front last, length-word (head n wide)) in
    ap word_of (ap (λ k. drop k t) place ∙ ap (drop (length front)) split ∙ drop_at front last (length front) refl ∙ sym (append-nil last))
    ∙ word_of-word (head n wide) [] (head_small t d ms n wide h)

halved : (n : ℕ) (wide : Bool) → head n wide / 2 ≡ n
halved n true = omega arith
halved n false = omega arith

odd : (n : ℕ) (wide : Bool) → (head n wide % 2 == 1) ≡ wide
odd n true = eq-eqb ((2 * n + 1) % 2) 1 (omega arith)
odd n false = ne_eqb ((2 * n) % 2) 1 (λ e. omega arith)

pub table_pieces : (t d : List ℕ) (ms : List Mark) (n : ℕ) (wide : Bool) → IsTable t d ms n wide → pieces_of t ≡ n
table_pieces t d ms n wide h = ap (λ x. x / 2) (table_head t d ms n wide h) ∙ halved n wide

table_wide : (t d : List ℕ) (ms : List Mark) (n : ℕ) (wide : Bool) → IsTable t d ms n wide → wide_of t ≡ wide
table_wide t d ms n wide h = ap (λ x. x % 2 == 1) (table_head t d ms n wide h) ∙ odd n wide

-- the marks that the head speaks of
table_marks : (t d : List ℕ) (ms : List Mark) (n : ℕ) (wide : Bool) → IsTable t d ms n wide → (i : ℕ) → marks_len (wide_of t) i ≡ marks_len wide i
table_marks t d ms n wide h i = ap (λ w. marks_len w i) (table_wide t d ms n wide h)

table_size : (t d : List ℕ) (ms : List Mark) (n : ℕ) (wide : Bool) → IsTable t d ms n wide → marks_len (wide_of t) (pieces_of t + 1) ≡ marks_len wide (n + 1)
table_size t d ms n wide h = table_marks t d ms n wide h (pieces_of t + 1) ∙ ap (λ k. marks_len wide (k + 1)) (table_pieces t d ms n wide h)

table_begin : (t d : List ℕ) (ms : List Mark) (n : ℕ) (wide : Bool) → IsTable t d ms n wide → begin_of t ≡ length d
table_begin t d ms n wide h = omega (arith, table_size t d ms n wide h, table_length t d ms n wide h)

pub has_head : (t d : List ℕ) (ms : List Mark) (n : ℕ) (wide : Bool) → IsTable t d ms n wide → HasHead t
has_head t d ms n wide h =
    record { ended = omega (arith, table_length t d ms n wide h); marked = omega (arith, table_size t d ms n wide h, table_length t d ms n wide h) }

len_grows : (wide : Bool) (i n : ℕ) → i ≤ n → marks_len wide (i + 1) ≤ marks_len wide (n + 1)
len_grows true i n h = omega arith
len_grows false i n h = omega arith

pub has_mark : (t d : List ℕ) (ms : List Mark) (n : ℕ) (wide : Bool) (i : ℕ) → IsTable t d ms n wide → i ≤ n → HasMark t i
has_mark t d ms n wide i h le = omega (arith, table_begin t d ms n wide h, table_marks t d ms n wide h (i + 1), len_grows wide i n le, table_length t d ms n wide h)

-- the numbers fit a mark of this width
abbrev pub FitsWidth : Bool → Mark → Type 0
FitsWidth true m = (m.at < 2 ^ 32) × (m.deep < 2 ^ 32)
FitsWidth false m = (m.at < 2 ^ 16) × (m.deep < 2 ^ 16)

-- the mark that begins at n
read_mark : (t : List ℕ) (wide : Bool) (n : ℕ) (m : Mark) (more : List ℕ) → drop n t ≡ mark_bytes wide m ++ more → FitsWidth wide m → (at_in t wide n ≡ m.at) × (deep_in t wide n ≡ m.deep)
read_mark t true n m more e fits =
    let one : drop n t ≡ word m.at ++ (word m.deep ++ more) = e ∙ append_assoc (word m.at) (word m.deep) more in
    let two : drop (n + 4) t ≡ word m.deep ++ more = sym (drop-drop 4 n t) ∙ ap (drop 4) one ∙ drop_at (word m.at) (word m.deep ++ more) 4 (length-word m.at) in
    (ap word_of one ∙ word_of-word m.at _ fits.0, ap word_of two ∙ word_of-word m.deep more fits.1)
read_mark t false n m more e fits =
    let one : drop n t ≡ half m.at ++ (half m.deep ++ more) = e ∙ append_assoc (half m.at) (half m.deep) more in
    let two : drop (n + 2) t ≡ half m.deep ++ more = sym (drop-drop 2 n t) ∙ ap (drop 2) one ∙ drop_at (half m.at) (half m.deep ++ more) 2 (length-half m.at) in
    (ap half_of one ∙ half_of-half m.at _ fits.0, ap half_of two ∙ half_of-half m.deep more fits.1)

-- the i-th mark is read
pub table_mark : (t d : List ℕ) (ms : List Mark) (n : ℕ) (wide : Bool) (i : ℕ) → IsTable t d ms n wide → i ≤ n → FitsWidth wide (nth_mark ms i) → (at_of t i ≡ (nth_mark ms i).at) × (deep_of t i ≡ (nth_mark ms i).deep)
table_mark t d ms n wide i h le fits =
    let p = mark_at wide ms i (word (head n wide)) (omega (arith, h.counted)) in
    let here : drop (length d + marks_len wide i) t ≡ mark_bytes wide (nth_mark ms i) ++ p.0 =
    ap (drop (length d + marks_len wide i)) h.is ∙ behind d (all_bytes wide ms ++ word (head n wide)) (length d) (marks_len wide i) refl ∙ p.1 in
    let r = read_mark t wide (length d + marks_len wide i) (nth_mark ms i) p.0 here fits in
    let place : begin_of t + marks_len (wide_of t) i ≡ length d + marks_len wide i = ap₂ (λ x y. x + y) (table_begin t d ms n wide h) (table_marks t d ms n wide h i) in (
      ap₂ (λ w k. at_in t w k) (table_wide t d ms n wide h) place ∙ r.0,
      ap₂ (λ w k. deep_in t w k) (table_wide t d ms n wide h) place ∙ r.1,
    )
