-- Contiguous pieces of a container: their marks, moved, and their text and tables in one piece each.
use Rattle.std.proofs.Common.{◌≡◌, ℕ, zero, suc, ◌+◌, ◌*◌, ◌-◌, ◌≤◌, ◌<◌, nat_lt, List, [], ◌∷◌, ◌++◌, length, take, drop, Bool, false, refl, sym, ap, ap₂, ◌∙◌, arith, append_assoc, length-append, length-drop, length-take-le, take-append-drop}
use Rattle.std.proofs.Math.Seq.{drop-cons}
use Rattle.std.proofs.lemmas.List.{take_at}
use Rattle.mg_value.specs.Value.{Value, text, object, Members, no_members, member, member_list, put}
use Rattle.mg_packed.specs.declared.mark.Mark.{Mark}
use Rattle.mg_packed.specs.Tables.{Piece, word, head, all_bytes, is_wide, ending, run, lead, deeper, reach, marks, container, member_pieces}
use Rattle.mg_packed.specs.Read.{Holds, at_of, deep_of}
use Rattle.mg_packed.specs.Gap.{names_before, names_up_to}
use Rattle.mg_packed.specs.Walk.{first_members, members_past, joined, part}
use Rattle.mg_packed.specs.Writing.{IsOpen, HasMarks, here, mark_in, moved, range_text, range_tables}
use Rattle.mg_packed.proofs.Marks.{mark, mark_same}
use Rattle.mg_packed.proofs.Opened.{run_joined, deeper_joined, marks_same, here_is, joined as opened}
use Rattle.mg_packed.proofs.Parting.{put_parts_at}
use Rattle.mg_packed.proofs.Parts.{piece_of, object_container, length-member_pieces}
use Rattle.mg_packed.proofs.Places.{none, all_marks, IsContainer, nth, past, under, past_next, under_next, past_within, under_within, marked, mark_there, ends, run_length, run_at, tables_at}

-- n pieces, from the i-th on
abbrev pub range : List Piece → ℕ → ℕ → List Piece
range ps i n = take n (drop i ps)

-- ---- the places of later pieces

range_first : (ps : List Piece) (i n : ℕ) → i < length ps → range ps i (suc n) ≡ nth ps i ∷ range ps (suc i) n
range_first ps i n h = ap (take (suc n)) (drop-cons ps i none h)

past_range : (ps : List Piece) (i n : ℕ) → i + n ≤ length ps → past ps (i + n) ≡ past ps i + reach (range ps i n)
past_range ps i zero h = let same : i + 0 ≡ i = omega arith in omega (arith, ap (past ps) same)
past_range ps i (suc n) h =
    let next : i + suc n ≡ suc i + n = omega arith in
    omega (arith, ap (past ps) next, past_range ps (suc i) n (omega arith), past_next ps i (omega arith), ap reach (range_first ps i n (omega arith)))

under_range : (ps : List Piece) (i n : ℕ) → i + n ≤ length ps → under ps (i + n) ≡ under ps i + length (deeper (range ps i n))
under_range ps i zero h = let same : i + 0 ≡ i = omega arith in omega (arith, ap (under ps) same)
under_range ps i (suc n) h =
    let next : i + suc n ≡ suc i + n = omega arith in
    omega (
      arith,
      ap (under ps) next,
      under_range ps (suc i) n (omega arith),
      under_next ps i (omega arith),
      ap (λ x. length (deeper x)) (range_first ps i n (omega arith)),
      length-append (nth ps i).tables (deeper (range ps (suc i) n)),
    )

past_grows : (ps : List Piece) (i k : ℕ) → i ≤ k → k ≤ length ps → past ps i ≤ past ps k
past_grows ps i k le h = let split : i + (k - i) ≡ k = omega arith in omega (arith, ap (past ps) split, past_range ps i (k - i) (omega (arith, split)))

under_grows : (ps : List Piece) (i k : ℕ) → i ≤ k → k ≤ length ps → under ps i ≤ under ps k
under_grows ps i k le h = let split : i + (k - i) ≡ k = omega arith in omega (arith, ap (under ps) split, under_range ps i (k - i) (omega (arith, split)))

past_apart : (ps : List Piece) (i k : ℕ) → i < k → k ≤ length ps → past ps i < past ps k
past_apart ps i k less h = omega (arith, past_next ps i (omega arith), past_grows ps (suc i) k (omega arith) h)

-- ---- in a container

module _ (b t : List ℕ) (ps : List Piece) (c : IsContainer b t ps) where
  pub has_marks : (i j : ℕ) → i < j → j ≤ length ps → HasMarks b t i j
  has_marks i j less h =
      let one = marked b t ps i c (omega arith) in
      let e = ends b t ps c in
      record {
        ordered = omega arith;
        there = λ k le up. mark_there b t ps k c (omega arith);
        at = λ k le up. omega (arith, one.0, (marked b t ps k c (omega arith)).0, past_grows ps i k le (omega arith));
        deep = λ k le up. omega (arith, one.1, (marked b t ps k c (omega arith)).1, under_grows ps i k le (omega arith));
        short = λ k le up. omega (arith, (marked b t ps k c (omega arith)).0, past_within ps k, e.0);
        low = λ k le up. omega (arith, (marked b t ps k c (omega arith)).1, under_within ps k, e.1);
        some = omega (arith, one.0, (marked b t ps j c h).0, past_apart ps i j less h);
        small = (c.short, c.low);
      }

  moved_from : (from to : Mark) (i n : ℕ) → i + n ≤ length ps → from.at ≤ past ps i → from.deep ≤ under ps i → moved t from to i n ≡ marks (past ps i - from.at + to.at) (under ps i - from.deep + to.deep) (range ps i n)
  moved_from from to i zero h le low = refl
  moved_from from to i (suc n) h le low =
      let m = marked b t ps i c (omega arith) in
      let p = nth ps i in
      let past_is = past_next ps i (omega arith) in
      let under_is = under_next ps i (omega arith) in
      let a = past ps i - from.at + to.at in
      let d = under ps i - from.deep + to.deep in
      let first : mark (at_of t i - from.at + to.at) (deep_of t i - from.deep + to.deep) ≡ mark a d = mark_same _ _ _ _ (ap (λ x. x - from.at + to.at) m.0) (ap (λ x. x - from.deep + to.deep) m.1) in
      ap₂ (λ x y. x ∷ y) first
      (moved_from from to (suc i) n (omega arith) (omega (arith, past_is)) (omega (arith, under_is))
      ∙ marks_same (past ps (suc i) - from.at + to.at) (a + (1 + length p.text)) (under ps (suc i) - from.deep + to.deep) (d + length p.tables) (range ps (suc i) n) (omega (arith, past_is)) (omega (arith, under_is)))
      ∙ ap (λ x. marks a d x) (sym (range_first ps i n (omega arith)))

  pub moved_is : (to : Mark) (i n : ℕ) → i + n ≤ length ps → moved t (mark_in t i) to i n ≡ marks to.at to.deep (range ps i n)
  moved_is to i n h =
      let m = marked b t ps i c (omega arith) in
      moved_from (mark_in t i) to i n h (omega (arith, m.0)) (omega (arith, m.1))
      ∙ marks_same (past ps i - at_of t i + to.at) to.at (under ps i - deep_of t i + to.deep) to.deep (range ps i n) (omega (arith, m.0)) (omega (arith, m.1))

  pub text_range : (i n : ℕ) → 0 < n → i + n ≤ length ps → range_text b t i (i + n) ≡ run false (range ps i n)
  text_range i n some h =
      let qs = range ps i n in
      let rest = drop n (drop i ps) in
      let one = marked b t ps i c (omega arith) in
      let two = marked b t ps (i + n) c h in
      let count : length qs ≡ n = length-take-le n (drop i ps) (omega (arith, length-drop i ps)) in
      let at : at_of t i + 1 ≡ suc (past ps i) = omega (arith, one.0) in
      let long : at_of t (i + n) - (at_of t i + 1) ≡ length (run false qs) = omega (arith, one.0, two.0, past_range ps i n h, run_length qs (omega (arith, count))) in
      let more = run (nat_lt 0 (length qs)) rest ++ c.close ∷ [] in
      let here : drop (suc (past ps i)) b ≡ run false qs ++ more =
      ap (drop (suc (past ps i))) c.text ∙ run_at ps i (c.close ∷ []) (omega arith) ∙ ap (λ x. run false x ++ c.close ∷ []) (sym (take-append-drop n (drop i ps)))
      ∙ ap (λ x. x ++ c.close ∷ []) (run_joined qs rest) ∙ append_assoc (run false qs) (run (nat_lt 0 (length qs)) rest) (c.close ∷ []) in
      ap (λ m. take m (drop (at_of t i + 1) b)) long ∙ ap (λ m. take (length (run false qs)) (drop m b)) at ∙ ap (take (length (run false qs))) here ∙ take_at (run false qs) more (length (run false qs)) refl

  pub tables_range : (i n : ℕ) → i + n ≤ length ps → range_tables t i (i + n) ≡ deeper (range ps i n)
  unfolding container
  tables_range i n h =
      let qs = range ps i n in
      let rest = drop n (drop i ps) in
      let one = marked b t ps i c (omega arith) in
      let two = marked b t ps (i + n) c h in
      let long : deep_of t (i + n) - deep_of t i ≡ length (deeper qs) = omega (arith, one.1, two.1, under_range ps i n h) in
      let tail = all_bytes (is_wide (ending ps)) (all_marks ps) ++ word (head (length ps) (is_wide (ending ps))) in
      let here : drop (under ps i) t ≡ deeper qs ++ (deeper rest ++ tail) =
      ap (drop (under ps i)) c.tables ∙ tables_at ps i tail ∙ ap (λ x. deeper x ++ tail) (sym (take-append-drop n (drop i ps)))
      ∙ ap (λ x. x ++ tail) (deeper_joined qs rest) ∙ append_assoc (deeper qs) (deeper rest) tail in
      ap (λ m. take m (drop (deep_of t i) t)) long ∙ ap (λ m. take (length (deeper qs)) (drop m t)) one.1 ∙ ap (take (length (deeper qs))) here ∙ take_at (deeper qs) (deeper rest ++ tail) (length (deeper qs)) refl

-- ---- the pieces of some members

two_more : (i : ℕ) → 2 * suc i ≡ suc (suc (2 * i))
two_more i = omega arith

pieces_past : (ms : Members) (i : ℕ) → drop (2 * i) (member_pieces ms) ≡ member_pieces (members_past i ms)
pieces_past no_members zero = refl
pieces_past no_members (suc i) = ap (λ n. drop n (member_pieces no_members)) (two_more i)
pieces_past (member k v ms) zero = refl
pieces_past (member k v ms) (suc i) = ap (λ n. drop n (member_pieces (member k v ms))) (two_more i) ∙ pieces_past ms i

first_pieces : (ms : Members) (n : ℕ) → take (2 * n) (member_pieces ms) ≡ member_pieces (first_members n ms)
first_pieces no_members zero = refl
first_pieces no_members (suc n) = ap (λ m. take m (member_pieces no_members)) (two_more n)
first_pieces (member k v ms) zero = refl
first_pieces (member k v ms) (suc n) = ap (λ m. take m (member_pieces (member k v ms))) (two_more n) ∙ ap (λ x. piece_of 44 (text k) ∷ piece_of 58 v ∷ x) (first_pieces ms n)

pub part_pieces : (ms : Members) (i n : ℕ) → range (member_pieces ms) (2 * i) (2 * n) ≡ member_pieces (part ms i n)
part_pieces ms i n = ap (take (2 * n)) (pieces_past ms i) ∙ first_pieces (members_past i ms) n

-- a comma comes before the first of some members
pub led : (later : Bool) (ms : Members) → 0 < length (member_pieces ms) → run later (member_pieces ms) ≡ lead later 44 ++ run false (member_pieces ms)
led later no_members h = absurd (omega arith)
led later (member k v ms) h = refl

pub pieces_joined : (ms more : Members) → member_pieces (joined ms more) ≡ member_pieces ms ++ member_pieces more
pieces_joined no_members more = refl
pieces_joined (member k v ms) more = ap (λ x. piece_of 44 (text k) ∷ piece_of 58 v ∷ x) (pieces_joined ms more)

-- the pieces of an object with a member put in, and of one without those in a gap
pub put_made : (k : List ℕ) (v : Value) (ms : Members) (i j n : ℕ) → i ≡ names_before k ms → j ≡ names_up_to k ms → n ≡ length (member_list ms) → j ≤ length (member_list ms)
    → (member_pieces (part ms 0 (i - 0)) ++ member_pieces (member k v no_members)) ++ member_pieces (part ms j (n - j)) ≡ member_pieces (put k v ms)
put_made k v ms i j n ei ej en le =
    let first : i - 0 ≡ i = omega arith in
    let one = member k v no_members in
    append_assoc (member_pieces (part ms 0 (i - 0))) (member_pieces one) (member_pieces (part ms j (n - j)))
    ∙ ap (λ x. member_pieces (part ms 0 x) ++ member_pieces (member k v (part ms j (n - j)))) first
    ∙ sym (pieces_joined (part ms 0 i) (member k v (part ms j (n - j)))) ∙ ap member_pieces (sym (put_parts_at k v ms i j (n - j) ei ej (omega (arith, en, le))))

pub kept_made : (ms : Members) (i j n m : ℕ) → n ≡ m → member_pieces (part ms 0 (i - 0)) ++ member_pieces (part ms j (n - j)) ≡ member_pieces (joined (part ms 0 i) (part ms j (m - j)))
kept_made ms i j n m en =
    let first : i - 0 ≡ i = omega arith in
    ap₂ (λ x y. member_pieces (part ms 0 x) ++ member_pieces (part ms j (y - j))) first en ∙ sym (pieces_joined (part ms 0 i) (part ms j (m - j)))

-- ---- some members of an object

module _ (b t : List ℕ) (ms : Members) (s e : ℕ) (h : Holds b t (object ms)) (less : s < e) (within : e ≤ length (member_list ms)) where
  pub members_marks : HasMarks b t (2 * s) (2 * e)
  members_marks = has_marks b t (member_pieces ms) (object_container b t ms h) (2 * s) (2 * e) (omega arith) (omega (arith, length-member_pieces ms))

  -- the members are added
  pub part_added : (b0 t0 : List ℕ) (bracket : ℕ) (ps : List Piece) (c u : List ℕ) (begin base : ℕ) (ns : List Mark) (d w : List ℕ) (os : List Mark) → IsOpen b0 t0 bracket ps c u begin base ns
      → d ≡ c ++ (lead (nat_lt 0 (length ns)) 44 ++ range_text b t (2 * s) (2 * e)) → w ≡ u ++ range_tables t (2 * s) (2 * e)
      → os ≡ ns ++ moved t (mark_in t (2 * s)) (here (nat_lt 0 (length ns)) (length c - begin) (length u - base)) (2 * s) (2 * e - 2 * s)
      → IsOpen b0 t0 bracket (ps ++ member_pieces (part ms s (e - s))) d w begin base os
  part_added b0 t0 bracket ps c u begin base ns d w os o ed ew es =
      let all = member_pieces ms in
      let n = 2 * (e - s) in
      let later = nat_lt 0 (length ns) in
      let more = member_pieces (part ms s (e - s)) in
      let whole = object_container b t ms h in
      let size : 2 * s + n ≡ 2 * e = omega arith in
      let count : 2 * e - 2 * s ≡ n = omega arith in
      let inside : 2 * s + n ≤ length all = omega (arith, length-member_pieces ms) in
      let is : range all (2 * s) n ≡ more = part_pieces ms s (e - s) in
      let some : 0 < length more = omega (arith, ap length is, length-take-le n (drop (2 * s) all) (omega (arith, length-drop (2 * s) all))) in
      let text : range_text b t (2 * s) (2 * e) ≡ run false more = ap (λ x. range_text b t (2 * s) x) (sym size) ∙ text_range b t all whole (2 * s) n (omega arith) inside ∙ ap (run false) is in
      let tables : range_tables t (2 * s) (2 * e) ≡ deeper more = ap (λ x. range_tables t (2 * s) x) (sym size) ∙ tables_range b t all whole (2 * s) n inside ∙ ap deeper is in
      let to = here later (length c - begin) (length u - base) in
      let end : to ≡ ending ps = here_is b0 t0 bracket ps c u begin base ns later (length c) (length u) o refl refl refl in
      let places : moved t (mark_in t (2 * s)) to (2 * s) (2 * e - 2 * s) ≡ marks (reach ps) (length (deeper ps)) more =
      ap (moved t (mark_in t (2 * s)) to (2 * s)) count ∙ moved_is b t all whole to (2 * s) n inside ∙ ap (marks to.at to.deep) is ∙ ap (λ m. marks m.at m.deep more) end in
      opened b0 t0 bracket ps c u begin base ns o more later d w os refl
      (ed ∙ ap (λ x. c ++ (lead later 44 ++ x)) text ∙ ap (λ x. c ++ x) (sym (led later (part ms s (e - s)) some))) (ew ∙ ap (λ x. u ++ x) tables) (es ∙ ap (λ x. ns ++ x) places)
