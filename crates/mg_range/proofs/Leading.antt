-- The atoms are decided if each bounds one of the bounded columns.
use Rattle.std.proofs.Common.{◌≡◌, ℕ, suc, Bool, true, false, ◌&&◌, ◌||◌, List, [], ◌∷◌, Option, Some, None, is_some, take, if◌then◌else◌, refl, sym, ap, ap₂}
use Rattle.std.specs.List.{AllByRecursion, cons_option, list_all, list_any}
use Rattle.mg_normal.specs.Atoms.{Atom}
use Rattle.mg_index.specs.Bound.{Bound, bound_on, bounds_on, bounded_count, is_bounded, is_fixed}
use Rattle.mg_index.specs.Definition.{Steps}
use Rattle.mg_range.specs.Decided.{bounds_one, is_decided}

-- ---- where no bound is given, no atom gives one

none_at : (o : Option Bound) (rest : List Bound) → list_any (λ b. true) (cons_option o rest) ≡ false → (is_some o ≡ false) × (list_any (λ b. true) rest ≡ false)
none_at None rest h = (refl, h)
none_at (Some b) rest h = absurd cc

none_bounds : (c : Steps) (atoms : List Atom) → is_bounded atoms c ≡ false → AllByRecursion (λ a. is_some (bound_on c a) ≡ false) atoms
none_bounds c [] h = tt
none_bounds c (a ∷ atoms) h =
    let both = none_at (bound_on c a) (bounds_on atoms c) h in
    (both.0, none_bounds c atoms both.1)

-- ---- the bounded columns, one after another

-- the atom a does not bound a column that none of the atoms bounds
abbrev BoundsBoundedOnly : List Atom → Atom → Type 0
BoundsBoundedOnly atoms a = (c : Steps) → is_bounded atoms c ≡ false → is_some (bound_on c a) ≡ false

at_column : (c : Steps) (cs : List Steps) (a : Atom) (n : ℕ) (decided fixed bounded : Bool) → bounds_one (take n cs) a ≡ decided → (bounded ≡ false → is_some (bound_on c a) ≡ false)
    → bounds_one (take (if fixed then suc n else if bounded then 1 else 0) (c ∷ cs)) a ≡ (is_some (bound_on c a) || (fixed && decided))
at_column c cs a n decided true bounded e free = ap (λ t. is_some (bound_on c a) || t) e
at_column c cs a n decided false true e free = refl
at_column c cs a n decided false false e free = sym (ap (λ t. t || false) (free refl))

decided_leading : (atoms : List Atom) (a : Atom) → BoundsBoundedOnly atoms a → (columns : List Steps) → bounds_one (take (bounded_count atoms columns) columns) a ≡ is_decided atoms columns a
decided_leading atoms a gives [] = refl
decided_leading atoms a gives (c ∷ cs) =
    at_column c cs a (bounded_count atoms cs) (is_decided atoms cs a) (is_fixed atoms c) (is_bounded atoms c) (decided_leading atoms a gives cs) (gives c)

leading : (atoms : List Atom) (columns : List Steps) (some : List Atom) → ((c : Steps) → is_bounded atoms c ≡ false → AllByRecursion (λ a. is_some (bound_on c a) ≡ false) some)
    → list_all (is_decided atoms columns) some ≡ list_all (bounds_one (take (bounded_count atoms columns) columns)) some
leading atoms columns [] free = refl
leading atoms columns (a ∷ some) free =
    ap₂ (λ s t. s && t) (sym (decided_leading atoms a (λ c h. (free c h).0) columns)) (leading atoms columns some (λ c h. (free c h).1))

-- all atoms are decided if each bounds one of the bounded columns
pub all_leading : (atoms : List Atom) (columns : List Steps) → list_all (is_decided atoms columns) atoms ≡ list_all (bounds_one (take (bounded_count atoms columns) columns)) atoms
all_leading atoms columns = leading atoms columns atoms (λ c. none_bounds c atoms)
