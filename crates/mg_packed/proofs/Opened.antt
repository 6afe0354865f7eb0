-- Adding pieces to a container one after another gives its text and its tables.
use Rattle.std.proofs.Common.{◌≡◌, ℕ, ◌+◌, ◌-◌, nat_lt, List, [], ◌∷◌, ◌++◌, length, Bool, true, false, refl, sym, ap, ap₂, ◌∙◌, arith, append_assoc, append-nil, length-append, lt-ltb}
use Rattle.mg_packed.specs.declared.mark.Mark.{Mark}
use Rattle.mg_packed.specs.Tables.{Piece, run, lead, deeper, reach, marks, ending, container, word, head, is_wide, all_bytes}
use Rattle.mg_packed.specs.Writing.{IsOpen, here}
use Rattle.mg_packed.proofs.Marks.{mark, mark_same}
use Rattle.mg_packed.proofs.Places.{length-marks, run_length}

-- ---- pieces, and then more

run_more : (ps qs : List Piece) → run true (ps ++ qs) ≡ run true ps ++ run true qs
run_more [] qs = refl
run_more (p ∷ ps) qs = ap (λ x. p.before ∷ (p.text ++ x)) (run_more ps qs) ∙ ap (λ x. p.before ∷ x) (sym (append_assoc p.text (run true ps) (run true qs)))

some : (p : Piece) (ps : List Piece) → nat_lt 0 (length (p ∷ ps)) ≡ true
some p ps = lt-ltb 0 (length (p ∷ ps)) (omega arith)

pub run_joined : (ps qs : List Piece) → run false (ps ++ qs) ≡ run false ps ++ run (nat_lt 0 (length ps)) qs
run_joined [] qs = refl
run_joined (p ∷ ps) qs =
    ap (λ x. p.text ++ x) (run_more ps qs) ∙ sym (append_assoc p.text (run true ps) (run true qs)) ∙ ap (λ x. (p.text ++ run true ps) ++ run x qs) (sym (some p ps))

pub deeper_joined : (ps qs : List Piece) → deeper (ps ++ qs) ≡ deeper ps ++ deeper qs
deeper_joined [] qs = refl
deeper_joined (p ∷ ps) qs = ap (λ x. p.tables ++ x) (deeper_joined ps qs) ∙ sym (append_assoc p.tables (deeper ps) (deeper qs))

pub marks_same : (a b d e : ℕ) (ps : List Piece) → a ≡ b → d ≡ e → marks a d ps ≡ marks b e ps
marks_same a b d e ps p q = ap₂ (λ x y. marks x y ps) p q

pub marks_joined : (at deep : ℕ) (ps qs : List Piece) → marks at deep (ps ++ qs) ≡ marks at deep ps ++ marks (at + reach ps) (deep + length (deeper ps)) qs
marks_joined at deep [] qs = marks_same at (at + 0) deep (deep + 0) qs (omega arith) (omega arith)
marks_joined at deep (p ∷ ps) qs =
    let a = at + (1 + length p.text) in
    let d = deep + length p.tables in
    ap (λ x. mark at deep ∷ x) (marks_joined a d ps qs
    ∙ ap (λ x. marks a d ps ++ x) (marks_same (a + reach ps) (at + reach (p ∷ ps)) (d + length (deeper ps)) (deep + length (deeper (p ∷ ps))) qs (omega arith) (omega (arith, length-append p.tables (deeper ps)))))

-- ---- the next pieces

module _ (b0 t0 : List ℕ) (bracket : ℕ) (ps : List Piece) (b t : List ℕ) (begin base : ℕ) (ms : List Mark) (h : IsOpen b0 t0 bracket ps b t begin base ms) where
  -- whether pieces came before
  pub later_is : nat_lt 0 (length ms) ≡ nat_lt 0 (length ps)
  later_is = ap (λ n. nat_lt 0 n) (ap length h.marks ∙ length-marks 0 0 ps)

  pub joined : (qs : List Piece) (later : Bool) (c u : List ℕ) (ns : List Mark) → later ≡ nat_lt 0 (length ms) → c ≡ b ++ run later qs → u ≡ t ++ deeper qs → ns ≡ ms ++ marks (reach ps) (length (deeper ps)) qs
      → IsOpen b0 t0 bracket (ps ++ qs) c u begin base ns
  joined qs later c u ns el ec eu en =
      record {
        text =
            ec ∙ ap (λ x. b ++ run x qs) (el ∙ later_is) ∙ ap (λ x. x ++ run (nat_lt 0 (length ps)) qs) h.text
            ∙ append_assoc b0 (bracket ∷ run false ps) (run (nat_lt 0 (length ps)) qs) ∙ ap (λ x. b0 ++ bracket ∷ x) (sym (run_joined ps qs));
        tables = eu ∙ ap (λ x. x ++ deeper qs) h.tables ∙ append_assoc t0 (deeper ps) (deeper qs) ∙ ap (λ x. t0 ++ x) (sym (deeper_joined ps qs));
        marks =
            en ∙ ap (λ x. x ++ marks (reach ps) (length (deeper ps)) qs) h.marks
            ∙ ap (λ x. marks 0 0 ps ++ x) (marks_same (reach ps) (0 + reach ps) (length (deeper ps)) (0 + length (deeper ps)) qs (omega arith) (omega arith)) ∙ sym (marks_joined 0 0 ps qs);
        begun = h.begun;
        based = h.based;
      }

  deep_is : length t - base ≡ length (deeper ps)
  deep_is = omega (arith, h.based, ap length h.tables, length-append t0 (deeper ps))

here_by : (b0 t0 : List ℕ) (bracket : ℕ) (ps : List Piece) (b t : List ℕ) (begin base : ℕ) (ms : List Mark) → IsOpen b0 t0 bracket ps b t begin base ms → here (nat_lt 0 (length ps)) (length b - begin) (length t - base) ≡ ending ps
here_by b0 t0 bracket [] b t begin base ms h = mark_same 0 0 _ _ refl (deep_is b0 t0 bracket [] b t begin base ms h)
here_by b0 t0 bracket (p ∷ ps) b t begin base ms h =
    ap (λ x. here x (length b - begin) (length t - base)) (some p ps)
    ∙ mark_same (length b - begin) (reach (p ∷ ps)) _ _ (omega (arith, h.begun, ap length h.text, length-append b0 (bracket ∷ run false (p ∷ ps)), run_length (p ∷ ps) (omega arith)))
    (deep_is b0 t0 bracket (p ∷ ps) b t begin base ms h)

-- the next mark
pub here_is : (b0 t0 : List ℕ) (bracket : ℕ) (ps : List Piece) (b t : List ℕ) (begin base : ℕ) (ms : List Mark) (later : Bool) (n m : ℕ) → IsOpen b0 t0 bracket ps b t begin base ms → later ≡ nat_lt 0 (length ms) → n ≡ length b → m ≡ length t
    → here later (n - begin) (m - base) ≡ ending ps
here_is b0 t0 bracket ps b t begin base ms later n m h el en em =
    ap (λ x. here x (n - begin) (m - base)) (el ∙ later_is b0 t0 bracket ps b t begin base ms h) ∙ ap₂ (λ x y. here (nat_lt 0 (length ps)) (x - begin) (y - base)) en em ∙ here_by b0 t0 bracket ps b t begin base ms h

pub open_next : (b0 t0 : List ℕ) (bracket : ℕ) (ps : List Piece) (b t : List ℕ) (begin base : ℕ) (ms : List Mark) (later : Bool) (n m : ℕ) (c : List ℕ) (ns : List Mark) (p : Piece)
    → IsOpen b0 t0 bracket ps b t begin base ms → later ≡ nat_lt 0 (length ms) → n ≡ length b → m ≡ length t → c ≡ b ++ lead later p.before → ns ≡ ms ++ here later (n - begin) (m - base) ∷ []
    → IsOpen b0 t0 bracket (ps ++ p ∷ []) (c ++ p.text) (t ++ p.tables) begin base ns
open_next b0 t0 bracket ps b t begin base ms later n m c ns p h el en em ec es =
    joined b0 t0 bracket ps b t begin base ms h (p ∷ []) later (c ++ p.text) (t ++ p.tables) ns el
    (ap (λ x. x ++ p.text) ec ∙ append_assoc b (lead later p.before) p.text ∙ ap (λ x. b ++ (lead later p.before ++ x)) (sym (append-nil p.text)))
    (ap (λ x. t ++ x) (sym (append-nil p.tables)))
    (es ∙ ap (λ x. ms ++ x ∷ []) (here_is b0 t0 bracket ps b t begin base ms later n m h el en em))

pub open_text : (b0 t0 : List ℕ) (bracket : ℕ) (ps : List Piece) (b t : List ℕ) (begin base : ℕ) (ms : List Mark) (close : ℕ) (c : List ℕ) → IsOpen b0 t0 bracket ps b t begin base ms → c ≡ b ++ close ∷ []
    → c ≡ b0 ++ bracket ∷ (run false ps ++ close ∷ [])
open_text b0 t0 bracket ps b t begin base ms close c h e = e ∙ ap (λ x. x ++ close ∷ []) h.text ∙ append_assoc b0 (bracket ∷ run false ps) (close ∷ [])

pub open_tables : (b0 t0 : List ℕ) (bracket : ℕ) (ps : List Piece) (b t : List ℕ) (begin base : ℕ) (ms : List Mark) (last : Mark) (wide : Bool) (n : ℕ) (ns : List Mark) (u : List ℕ) → IsOpen b0 t0 bracket ps b t begin base ms
    → last ≡ ending ps → wide ≡ is_wide last → n ≡ length ms → ns ≡ ms ++ last ∷ [] → u ≡ (t ++ all_bytes wide ns) ++ word (head n wide) → u ≡ t0 ++ container ps
unfolding container
open_tables b0 t0 bracket ps b t begin base ms last wide n ns u h el ew en es eu =
    let w : wide ≡ is_wide (ending ps) = ew ∙ ap is_wide el in
    let counted : n ≡ length ps = en ∙ ap length h.marks ∙ length-marks 0 0 ps in
    let all : ns ≡ marks 0 0 ps ++ ending ps ∷ [] = es ∙ ap₂ (λ x y. x ++ y ∷ []) h.marks el in
    eu ∙ append_assoc t (all_bytes wide ns) (word (head n wide))
    ∙ ap (λ x. t ++ (all_bytes x ns ++ word (head n x))) w
    ∙ ap₂ (λ x y. t ++ (all_bytes (is_wide (ending ps)) x ++ word (head y (is_wide (ending ps))))) all counted
    ∙ ap (λ x. x ++ (all_bytes (is_wide (ending ps)) (marks 0 0 ps ++ ending ps ∷ []) ++ word (head (length ps) (is_wide (ending ps))))) h.tables
    ∙ append_assoc t0 (deeper ps) (all_bytes (is_wide (ending ps)) (marks 0 0 ps ++ ending ps ∷ []) ++ word (head (length ps) (is_wide (ending ps))))
