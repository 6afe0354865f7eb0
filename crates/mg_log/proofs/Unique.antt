-- Two logs with the same rows are one.
use Rattle.std.proofs.Common.{◌≡◌, ℕ, ◌+◌, ◌<◌, List, [], ◌∷◌, Bool, true, false, Some, refl, sym, ap, subst, ◌∙◌, arith}
use Rattle.std.specs.Prelude.{filter, ◌==◌, not, pos}
use Rattle.std.specs.List.Sorted.{IsPermutation}
use Rattle.std.proofs.lemmas.List.Sorted.{length_permutation, IsPermutation-trans, IsPermutation-sym}
use Rattle.sqlite.specs.Order.{Row, column}
use Rattle.sqlite.specs.Tree.{Trees}
use Rattle.sqlite_trees.specs.Objects.{number_in}
use Rattle.sqlite_trees.proofs.ListLemmas.{IsPermutation-filter}
use Rattle.sqlite.proofs.Callers.{one_permutation}
use Rattle.mg_value.specs.Value.{Value, whole, text}
use Rattle.mg_value.specs.Text.{Reads, whole_of}
use Rattle.mg_log.specs.Header.{Heading, IsHeader, IsHeaderText}
use Rattle.mg_log.specs.Entry.{Entry, head_entry}
use Rattle.mg_log.specs.Rows.{row_of, rows_from, Lists, Holds}

abbrev is_at : ℕ → Row → Bool
is_at k row = number_in (column row 0) == k

at_itself : (k : ℕ) → (k == k) ≡ true
at_itself k = grind arith

at_other : (k m : ℕ) → k < m → (m == k) ≡ false
at_other k m low = grind arith

none_before : (k m : ℕ) (xs : List Entry) → k < m → filter (is_at k) (rows_from m xs) ≡ []
none_before k m [] low = refl
none_before k m (x ∷ xs) low = rw (at_other k m low) (none_before k (m + 1) xs (omega arith))

all_after : (k m : ℕ) (xs : List Entry) → k < m → filter (λ r. not (is_at k r)) (rows_from m xs) ≡ rows_from m xs
all_after k m [] low = refl
all_after k m (x ∷ xs) low = rw (at_other k m low) (ap (λ more. row_of m x ∷ more) (all_after k (m + 1) xs (omega arith)))

same_row : (k : ℕ) (x y : Entry) → row_of k y ∷ [] ≡ row_of k x ∷ [] → x ≡ y
same_row k x y h =
    let kinds : x.kind ≡ y.kind = cc in
    let bodies : x.body ≡ y.body = cc in
    ap (λ n. let e : Entry = record { kind = n; body = x.body } in e) kinds ∙ ap (λ b. let e : Entry = record { kind = y.kind; body = b } in e) bodies

same_from : (k : ℕ) (xs ys : List Entry) → IsPermutation (rows_from k xs) (rows_from k ys) → xs ≡ ys
same_from k [] [] h = refl
same_from k [] (y ∷ ys) h = absurd (let e = length_permutation _ _ h in omega arith)
same_from k (x ∷ xs) [] h = absurd (let e = length_permutation _ _ h in omega arith)
same_from k (x ∷ xs) (y ∷ ys) h =
    let low : k < k + 1 = omega arith in
    let here = rw (at_itself k, none_before k (k + 1) xs low, none_before k (k + 1) ys low) at (IsPermutation-filter (is_at k) _ _ h) in
    let others = rw (at_itself k, all_after k (k + 1) xs low, all_after k (k + 1) ys low) at (IsPermutation-filter (λ r. not (is_at k r)) _ _ h) in
    let head : x ≡ y = same_row k x y (one_permutation (row_of k x) _ here) in
    let tail : xs ≡ ys = same_from (k + 1) xs ys others in
    ap (λ e. e ∷ xs) head ∙ ap (λ es. y ∷ es) tail

-- a table lists its rows in one way
same_list : (xs ys : List Entry) (db : Trees) → Lists xs db → Lists ys db → xs ≡ ys
same_list xs ys db p q = same_from 0 xs ys (IsPermutation-trans _ _ _ p (IsPermutation-sym _ _ q))

-- a text has one value
reads_one : (bytes : List ℕ) (v w : Value) → Reads bytes v → Reads bytes w → v ≡ w
reads_one bytes v w p q =
    let parsed : Some p.0 ≡ Some q.0 = sym p.1.1 ∙ q.1.1 in
    let same : p.0 ≡ q.0 = cc in
    let both : Some v ≡ Some w = sym p.2 ∙ ap whole_of same ∙ q.2 in
    cc

-- a text is that of one header
same_heading : (h k : Heading) (v : Value) → IsHeader h v → IsHeader k v → h ≡ k
same_heading h k v p q =
    let names : Some (text h.database) ≡ Some (text k.database) = sym p.database ∙ q.database in
    let counters : Some (whole (pos h.counter)) ≡ Some (whole (pos k.counter)) = sym p.counter ∙ q.counter in
    let counts : Some (whole (pos h.commits)) ≡ Some (whole (pos k.commits)) = sym p.commits ∙ q.commits in
    let a : h.database ≡ k.database = cc in
    let b : h.counter ≡ k.counter = cc in
    let c : h.commits ≡ k.commits = cc in
    ap (λ x. let r : Heading = record { database = x; counter = h.counter; commits = h.commits } in r) a
    ∙ ap (λ x. let r : Heading = record { database = k.database; counter = x; commits = h.commits } in r) b
    ∙ ap (λ x. let r : Heading = record { database = k.database; counter = k.counter; commits = x } in r) c

-- a database is the log of one header and of one list of commits
pub same_log : (h k : Heading) (xs ys : List Entry) (db : Trees) → Holds h xs db → Holds k ys db → (h ≡ k) × (xs ≡ ys)
same_log h k xs ys db p q =
    let all : head_entry p.head ∷ xs ≡ head_entry q.head ∷ ys = same_list _ _ db p.rows q.rows in
    let heads : p.head ≡ q.head = cc in
    let values : p.says.value ≡ q.says.value = reads_one q.head _ _ (subst (λ b. Reads b p.says.value) heads p.says.reads) q.says.reads in
    (same_heading h k q.says.value (subst (IsHeader h) values p.says.says) q.says.says, cc)
