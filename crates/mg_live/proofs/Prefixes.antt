-- Prefixes of one commit log.
use Rattle.std.proofs.lemmas.Bool.{leb-true, leb-false}
use Rattle.std.proofs.lemmas.Bool.Decides.{nat_tests}
use Rattle.std.proofs.lemmas.List.{get_or_read, map-append}
use Rattle.std.proofs.Common.{Bool, true, false, leb, MatchBool, ◌<◌, ◌⊎◌, ◌+◌, ⊎_elim, inl, inr, subst, get_or, nat_lt, ◌≡◌, ℕ, ◌≤◌, List, [], ◌∷◌, length, refl, ap, sym, ◌∙◌, arith}
use mathlib.Core.List.{IsPrefix}
use mathlib.Core.Logic.{dite}
use native.Mathlib.Decide.{ℕ_discrete}
use Rattle.mg_machine.specs.Laws.{IsPrefix as Begins}
use Rattle.mg_machine.specs.Machine.{Commit, longer_of}
use Rattle.mg_machine.proofs.Beginnings.{itself, two}
use Rattle.mg_live.specs.View.{commit_view, commits_view}
use Rattle.mg_live.specs.declared.markers.Entry.{Entry}

-- of two prefixes of one list, the shorter is a prefix of the longer
pub prefix_shorter : {A : Type 0} (xs ys zs : List A) → IsPrefix xs zs → IsPrefix ys zs → length xs ≤ length ys → IsPrefix xs ys
prefix_shorter [] ys zs p q le = (ys, refl)
prefix_shorter (x ∷ xs) [] zs p q le = absurd (omega arith)
prefix_shorter (x ∷ xs) (y ∷ ys) [] p q le = absurd (cc (p.1))
prefix_shorter (x ∷ xs) (y ∷ ys) (z ∷ zs) p q le =
    let heads : x ≡ y = cc (p.1, q.1) in
    let rest = prefix_shorter xs ys zs (p.0, cc (p.1)) (q.0, cc (q.1)) (omega arith) in
    (rest.0, cc (heads, rest.1))

-- a prefix as long as the whole is the whole
pub prefix_whole : {A : Type 0} (xs ys : List A) → IsPrefix xs ys → length ys ≤ length xs → xs ≡ ys
prefix_whole [] [] p le = refl
prefix_whole [] (y ∷ ys) p le = absurd (omega arith)
prefix_whole (x ∷ xs) [] p le = absurd (cc (p.1))
prefix_whole (x ∷ xs) (y ∷ ys) p le =
    let rest = prefix_whole xs ys (p.0, cc (p.1)) (omega arith) in cc (p.1, rest)

-- the commits of a prefix are a prefix of the commits of the whole
pub seen_begins : (xs ys : List Entry) → IsPrefix xs ys → Begins (commits_view xs) (commits_view ys)
seen_begins xs ys p = (commits_view p.0, sym (ap commits_view p.1) ∙ map-append commit_view xs p.0)

-- commits are a prefix of themselves
pub begins_itself : (cs : List Commit) → Begins cs cs
begins_itself cs = itself cs

-- the longer of two lists, of which the first is a prefix of the second, is the second
pub longer_second : (cs ds : List Commit) → Begins cs ds → ds ≡ longer_of cs ds
longer_second cs ds p = elim (two (nat_lt (length cs) (length ds))) [
  | inl t ↦ rw t refl
  | inr f ↦ let le : length ds ≤ length cs = grind (arith, nat_tests, f) in rw f (sym (prefix_whole cs ds (p.0, sym p.1) le))
]

-- the lengths of two prefixes of one list decide which is a prefix of the other
pub compared : (xs ys zs : List Entry) → IsPrefix xs zs → IsPrefix ys zs → (b : Bool) → leb (length xs) (length ys) ≡ b
    → MatchBool b (Begins (commits_view xs) (commits_view ys)) (Begins (commits_view ys) (commits_view xs))
compared xs ys zs p q true is = seen_begins xs ys (prefix_shorter xs ys zs p q (leb-true (length xs) (length ys) is))
compared xs ys zs p q false is = let less = leb-false (length xs) (length ys) is in seen_begins ys xs (prefix_shorter ys xs zs q p (omega arith))

split_le : (k i : ℕ) → k < i + 1 → (k < i) ⊎ (k ≡ i)
split_le k i less = dite (ℕ_discrete k i) (λ e. inr e) (λ ne. inl (omega arith))

-- what holds of each element below i, and of the i-th, holds of each below i + 1
pub below_one_more : {X : Type 0} (P : X → Type 0) (xs : List X) (i : ℕ) (x : X) → ((k : ℕ) (d : X) → k < i → P (get_or xs k d)) → i < length xs → x ≡ get_or xs i x → P x → (k : ℕ) (d : X) → k < i + 1 → P (get_or xs k d)
below_one_more P xs i x all here is h k d less =
    ⊎_elim (λ (lt : k < i). all k d lt) (λ (e : k ≡ i). subst P (get_or_read xs i x here is d ∙ ap (λ (n : ℕ). get_or xs n d) (sym e)) h) (split_le k i less)
