-- The same revision is an equal revision.
use Rattle.std.proofs.Common.{◌≡◌, ℕ, Bool, true, false, List, ◌⊎◌, inl, inr, refl, ap, sym, ◌∙◌, subst, arith}
use Rattle.std.specs.declared.cmp.Ordering.{Ordering}
use Rattle.std.specs.declared.cmp.Ordering.TheVariants.{Less, Equal, Greater}
use Rattle.std.specs.Ordering.{is_eq, nat_cmp, ordering_reverse, ordering_then}
use Rattle.std.specs.Cmp.{IsTotalOrder, then_total}
use Rattle.std.proofs.lemmas.Cmp.{on_total, nat_cmp_total, nat_list_cmp_total}
use Rattle.std.specs.Cmp.Lexicographic.{slice_cmp}
use Rattle.std.proofs.lemmas.Slice.Eq.{bytes_eq-Decides}
use Rattle.std.proofs.lemmas.Map.Text.{is_eq-slice_cmp}
use Rattle.std.proofs.lemmas.Bool.Decides.{nat_tests}
use Rattle.mg_revtree.specs.Revision.{Revision, revision_order, same_revision}

pub two : (b : Bool) → (b ≡ true) ⊎ (b ≡ false)
two true = inl refl
two false = inr refl

then_equal : (o p : Ordering) → is_eq (ordering_then o p) ≡ true → (o ≡ Equal) × (is_eq p ≡ true)
then_equal Less p h = cc
then_equal Equal p h = (refl, h)
then_equal Greater p h = cc

nat_equal : (m n : ℕ) → nat_cmp m n ≡ Equal → m ≡ n
nat_equal m n h = grind (arith, nat_tests)

nat_equal_refl : (n : ℕ) → nat_cmp n n ≡ Equal
nat_equal_refl n = grind (arith, nat_tests)

pub same_is : (a b : Revision) → same_revision a b ≡ true → a ≡ b
same_is a b h =
    let p = then_equal (nat_cmp a.0 b.0) (slice_cmp nat_cmp a.1 b.1) h in
    let m : a.0 ≡ b.0 = nat_equal a.0 b.0 p.0 in
    let t : a.1 ≡ b.1 = (bytes_eq-Decides a.1 b.1).0 (sym (is_eq-slice_cmp a.1 b.1) ∙ p.1) in
    subst (λ (n : ℕ). a ≡ (n, b.1)) m (subst (λ (s : List ℕ). a ≡ (a.0, s)) t refl)

pub same_refl : (a : Revision) → same_revision a a ≡ true
same_refl a = rw (nat_equal_refl a.0) (is_eq-slice_cmp a.1 a.1 ∙ (bytes_eq-Decides a.1 a.1).1 refl)

-- two revisions at one position are the same exactly if their ids are
pub same_at : (r : Revision) (s : List ℕ) → same_revision r (r.0, s) ≡ is_eq (slice_cmp nat_cmp r.1 s)
same_at r s = rw (nat_equal_refl r.0) refl

pub revision_total : IsTotalOrder revision_order
revision_total = then_total (on_total (λ (r : Revision). r.0) nat_cmp_total) (on_total (λ (r : Revision). r.1) nat_list_cmp_total)

-- a revision that is less than r is not r
pub less_apart : (a r : Revision) → revision_order a r ≡ Less → same_revision r a ≡ false
less_apart a r h = ap is_eq (revision_total.antisymm r a ∙ ap ordering_reverse h)

pub equal_same : (a r : Revision) → revision_order a r ≡ Equal → same_revision r a ≡ true
equal_same a r h = ap is_eq (revision_total.antisymm r a ∙ ap ordering_reverse h)

-- two different revisions are not both r
pub apart : (r a b : Revision) → same_revision a b ≡ false → same_revision r b ≡ true → same_revision r a ≡ false
apart r a b h k = elim (two (same_revision r a)) [
  | inl e ↦ absurd (let d : a ≡ b = sym (same_is r a e) ∙ same_is r b k in let f : same_revision a b ≡ true = subst (λ (x : Revision). same_revision a x ≡ true) d (same_refl a) in cc)
  | inr e ↦ e
]
