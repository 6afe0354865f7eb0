-- The steps that take a pen and add an entry keep the rule of the commit log.
use Rattle.std.proofs.Common.{◌≡◌, ◌≢◌, ℕ, zero, suc, ◌+◌, ◌<◌, ◌==◌, Bool, true, false, List, [], ◌∷◌, ◌++◌, length, refl, ap, sym, subst, ◌∙◌, arith, inl, length-append, None}
use Rattle.std.proofs.lemmas.List.{append-nil, get_or-set_other, get_or-set_same, length-set}
use Rattle.std.proofs.lemmas.Bool.Decides.{nat_tests}
use mathlib.Core.List.{IsPrefix}
use mathlib.Core.Logic.{dite}
use native.Mathlib.Decide.{ℕ_discrete}
use prog.Atomic.{either}
use Rattle.std.specs.Prelude.{set}
use Rattle.logbook.specs.Pages.{Cell, Nib, Moves, adds, cell, gives, may_write, no_nib, step}
use Rattle.mg_live.specs.declared.markers.Entry.{Entry}
use Rattle.mg_live.specs.Rules.{Adds, AreUsed, IsKept, Takes, key_after}

abbrev pub shown : List Entry → List Entry
shown log = []

abbrev pub moved : List Entry → List Entry → ℕ → Type 0
moved xs ys n = Unit {0}

-- ---- used pens

-- if the pen after these entries is not used, they are all entries
pub all_added : (cells : List Cell) (key : ℕ) (xs log : List Entry) → AreUsed cells key log → IsPrefix xs log → (cell cells (key_after key xs)).1 ≡ false → log ≡ xs
all_added cells key [] [] used p away = refl
all_added cells key [] (e ∷ es) used p away = absurd (cc (used.0, away))
all_added cells key (x ∷ xs) [] used p away = absurd (cc (p.1))
all_added cells key (x ∷ xs) (e ∷ es) used p away =
    let heads : x ≡ e = cc (p.1) in
    let rest = all_added cells e.next xs es used.1 (p.0, cc (p.1)) (subst (λ (y : Entry). (cell cells (key_after y.next xs)).1 ≡ false) heads away) in
    cc (heads, rest)

-- used pens stay used
pub still_used : (cs ds : List Cell) → ((k : ℕ) → (cell cs k).1 ≡ true → (cell ds k).1 ≡ true) → (key : ℕ) (log : List Entry) → AreUsed cs key log → AreUsed ds key log
still_used cs ds all key [] used = tt
still_used cs ds all key (e ∷ es) used = (all key used.0, still_used cs ds all e.next es used.1)

-- one more pen is used
pub one_used : (cells : List Cell) (key : ℕ) (log : List Entry) (e : Entry) → AreUsed cells key log → (cell cells (key_after key log)).1 ≡ true → AreUsed cells key (log ++ e ∷ [])
one_used cells key [] e used last = (last, tt)
one_used cells key (x ∷ xs) e used last = (used.0, one_used cells x.next xs e used.1 last)

-- ---- cells

split : (i j : ℕ) (P : Type 0) → (i ≡ j → P) → (i ≢ j → P) → P
split i j P same other = dite (ℕ_discrete i j) same other

-- a cell at home is one of the cells
pub inside : (cs : List Cell) (k : ℕ) → (cell cs k).1 ≡ true → k < length cs
inside [] k home = absurd (cc home)
inside (c ∷ cs) zero home = omega arith
inside (c ∷ cs) (suc k) home = let i = inside cs k home in omega arith

-- a new cell at the end is away, and so was what stood there
pub grown : (cs : List Cell) (k : ℕ) → cell (cs ++ (0, false) ∷ []) k ≡ cell cs k
grown [] zero = refl
grown [] (suc k) = refl
grown (c ∷ cs) zero = refl
grown (c ∷ cs) (suc k) = grown cs k

-- a cell that is brought home leaves those at home there
pub brought : (cs : List Cell) (i n : ℕ) → i < length cs → (k : ℕ) → (cell cs k).1 ≡ true → (cell (set cs i (n, true)) k).1 ≡ true
brought cs i n less k home =
    split k i ((cell (set cs i (n, true)) k).1 ≡ true)
    (λ same. rw same (ap (λ (c : Cell). c.1) (get_or-set_same cs i (n, true) (0, false) less)))
    (λ other. ap (λ (c : Cell). c.1) (get_or-set_other cs i k (n, true) (0, false) other) ∙ home)

-- ---- taking a pen

-- the rule is kept where a pen is taken, and the second word is then not 0
taken : (cs : List Cell) (log : List Entry) (m : ℕ) → m ≢ 0 → IsKept cs log → IsKept (set cs 1 (m, true) ++ (0, false) ∷ []) log
taken cs log m some kept =
    let set_cs : List Cell = set cs 1 (m, true) in
    let here : cell (set_cs ++ (0, false) ∷ []) 1 ≡ (m, true) = grown set_cs 1 ∙ get_or-set_same cs 1 (m, true) (0, false) (inside cs 1 kept.pens) in
    record {
      count = grown set_cs 0 ∙ get_or-set_other cs 1 0 (m, true) (0, false) (λ e. absurd (omega arith)) ∙ kept.count;
      pens = ap (λ (c : Cell). c.1) here;
      fresh = λ none. absurd (some (sym (ap (λ (c : Cell). c.0) here) ∙ none));
      used = still_used cs _ (λ k home. ap (λ (c : Cell). c.1) (grown set_cs k) ∙ brought cs 1 m (inside cs 1 kept.pens) k home) 2 log kept.used;
    }

-- the second word is not 0 after the step
not_fresh : (n : ℕ) (b : Bool) → (n == 0) ≡ b → either b 1 n ≢ 0
not_fresh n true is none = absurd (omega arith)
not_fresh n false is none = absurd (let some : n ≢ 0 = grind (arith, nat_tests, is) in some none)

-- whatever the log is, the step takes a pen
pub takes_moves : (v : List Entry) (e : Entry) → Moves IsKept shown moved 1 (v, (no_nib, None)) (λ n. either (n == 0) 1 n) (Takes (step 1 0 1 e) (v, (no_nib, None)))
takes_moves v e cs log kept pre away =
    let n : ℕ = (cell cs 1).0 in
    let ds : List Cell = set cs 1 (either (n == 0) 1 n, true) ++ (0, false) ∷ [] in (
      inside cs 1 kept.pens,
      kept.pens,
      (
        adds,
        [],
        None,
        tt,
        subst (λ (l : List Entry). IsKept ds l) (sym (append-nil log)) (taken cs log (either (n == 0) 1 n) (not_fresh n (n == 0) refl) kept),
        inl (refl, refl),
        (refl, λ none. (kept.fresh none).0),
      ),
    )

-- ---- adding an entry

-- the rule is kept where an entry is added and its pen is used
added : (cs : List Cell) (xs : List Entry) (e : Entry) (key n : ℕ) → key ≡ key_after 2 xs → key < length cs → (cell cs key).1 ≡ false → IsKept cs xs
    → IsKept (set (set cs 0 (length xs + 1, true)) key (n, true)) (xs ++ e ∷ [])
added cs xs e key n is less away kept =
    let counted : List Cell = set cs 0 (length xs + 1, true) in
    let not0 : key ≢ 0 = λ z. absurd (let t : (cell cs 0).1 ≡ false = rw z at away in cc (t, kept.count)) in
    let not1 : key ≢ 1 = λ z. absurd (let t : (cell cs 1).1 ≡ false = rw z at away in cc (t, kept.pens)) in
    let zero_less : 0 < length cs = omega (arith, less) in
    let key_less : key < length counted = rw (length-set cs 0 (length xs + 1, true)) less in
    let here : cell (set counted key (n, true)) key ≡ (n, true) = get_or-set_same counted key (n, true) (0, false) key_less in
    let first : cell (set counted key (n, true)) 0 ≡ (length xs + 1, true) =
    get_or-set_other counted key 0 (n, true) (0, false) (λ z. not0 (sym z)) ∙ get_or-set_same cs 0 (length xs + 1, true) (0, false) zero_less in
    let second : cell (set counted key (n, true)) 1 ≡ cell cs 1 =
    get_or-set_other counted key 1 (n, true) (0, false) (λ z. not1 (sym z)) ∙ get_or-set_other cs 0 1 (length xs + 1, true) (0, false) (λ z. absurd (omega arith)) in
    record {
      count = first ∙ ap (λ (k : ℕ). (k, true)) (sym (length-append xs (e ∷ [])));
      pens = ap (λ (c : Cell). c.1) second ∙ kept.pens;
      fresh = λ none. absurd (let two = (kept.fresh (sym (ap (λ (c : Cell). c.0) second) ∙ none)).0 in omega (arith, less, two, not0, not1));
      used = one_used _ 2 xs e
          (still_used cs _ (λ k home. brought counted key n key_less k (brought cs 0 (length xs + 1) zero_less k home)) 2 xs kept.used)
          (ap (λ (c : Cell). c.1) (ap (λ (k : ℕ). cell (set counted key (n, true)) k) (sym is) ∙ here));
    }

-- an entry names the pen for the entry after it
pub last_key : (key : ℕ) (xs : List Entry) (e : Entry) → key_after key (xs ++ e ∷ []) ≡ e.next
last_key key [] e = refl
last_key key (x ∷ xs) e = last_key x.next xs e

-- whoever has the pen for the entry after `xs` adds this entry right there
pub adds_moves : (xs : List Entry) (e : Entry) (p : Nib) (old : ℕ) → old ≡ length xs → p.right ≡ may_write → p.key ≡ key_after 2 xs
    → Moves IsKept shown moved 0 (xs, (p, None)) (λ n. either (n == old) (old + 1) n) (Adds (step 0 old (old + 1) e) (xs, (p, None)))
adds_moves xs e p old len right is cs log kept pre away =
    let none : (cell cs (key_after 2 xs)).1 ≡ false = rw is at (away right).1 in
    let all : log ≡ xs = all_added cs 2 xs log kept.used pre none in
    let whole : IsKept cs xs = subst (λ (l : List Entry). IsKept cs l) all kept in
    let n : (cell cs 0).0 ≡ old = ap (λ (c : Cell). c.0) whole.count ∙ sym len in
    let same : ((cell cs 0).0 == old) ≡ true = grind (arith, nat_tests, n) in
    let next : either ((cell cs 0).0 == old) (old + 1) (cell cs 0).0 ≡ length xs + 1 = rw same (ap (λ (k : ℕ). k + 1) len) in (
      inside cs 0 (ap (λ (c : Cell). c.1) kept.count),
      ap (λ (c : Cell). c.1) kept.count,
      (
        gives,
        e ∷ [],
        None,
        right,
        rw (all, next) (added cs xs e p.key p.value is (away right).0 (away right).1 whole),
        inl (refl, refl),
        ap (λ (l : List Entry). l ++ e ∷ []) all,
      ),
    )
