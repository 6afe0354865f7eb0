-- Paths that give no revision two parents are accepted in every order.
use Rattle.std.proofs.Common.{◌≡◌, true, Option, Some, None, List, [], ◌∷◌, ◌++◌, inl, inr, refl, sym, ◌∙◌, append_assoc}
use Rattle.mg_revtree.specs.Revision.{Revision, same_revision}
use Rattle.std.specs.Option.{option_or}
use Rattle.mg_revtree.specs.History.{Link, parent_of, agrees, fit, links, all_links}
use Rattle.mg_revtree.specs.Laws.{AmongLinks, AcceptedInEveryOrder}
use Rattle.mg_revtree.proofs.Same.{two, same_is, same_refl}
use Rattle.mg_revtree.proofs.Joins.{all_links-append}

pub among_left : (l : Link) (ls ms : List Link) → AmongLinks l ls → AmongLinks l (ls ++ ms)
among_left l [] ms a = absurd a
among_left l (k ∷ ls) ms (inl e) = inl e
among_left l (k ∷ ls) ms (inr a) = inr (among_left l ls ms a)

pub among_right : (l : Link) (ls ms : List Link) → AmongLinks l ms → AmongLinks l (ls ++ ms)
among_right l [] ms a = a
among_right l (k ∷ ls) ms a = inr (among_right l ls ms a)

-- a known parent is given by a link
pub parent_among : (r q : Revision) (ls : List Link) → parent_of r ls ≡ Some q → (l : Link) × AmongLinks l ls × (r ≡ l.rev) × (l.parent ≡ Some q)
parent_among r q [] e = cc
parent_among r q (k ∷ ls) e = elim (two (same_revision r k.rev)) [
  | inl t ↦ given k.parent refl (let f : option_or k.parent (parent_of r ls) ≡ Some q = rw t at e in f) (same_is r k.rev t) (parent_among r q ls)
  | inr n ↦ let f : parent_of r ls ≡ Some q = rw n at e in let d = parent_among r q ls f in (d.0, inr d.1, d.2, d.3)
]
  where
    given : (o : Option Revision) → k.parent ≡ o → option_or o (parent_of r ls) ≡ Some q → r ≡ k.rev → (parent_of r ls ≡ Some q → (l : Link) × AmongLinks l ls × (r ≡ l.rev) × (l.parent ≡ Some q)) → (l : Link) × AmongLinks l (k ∷ ls) × (r ≡ l.rev) × (l.parent ≡ Some q)
    given None o f is rest = let d = rest f in (d.0, inr d.1, d.2, d.3)
    given (Some x) o f is rest = (k, inl refl, is, o ∙ f)

agrees_when : (o p : Option Revision) → ((a b : Revision) → o ≡ Some a → p ≡ Some b → a ≡ b) → agrees o p ≡ true
agrees_when None p h = refl
agrees_when (Some a) None h = refl
agrees_when (Some a) (Some b) h = rw (h a b refl refl) (same_refl b)

fits_when : (ls ms : List Link) → ((l m : Link) (a b : Revision) → AmongLinks l ls → AmongLinks m ms → l.rev ≡ m.rev → l.parent ≡ Some a → m.parent ≡ Some b → a ≡ b) → fit ls ms ≡ true
fits_when ls [] h = refl
fits_when ls (m ∷ ms) h =
    let e : agrees (parent_of m.rev ls) m.parent ≡ true = agrees_when (parent_of m.rev ls) m.parent (λ a b known given. let d = parent_among m.rev a ls known in h d.0 m a b d.1 (inl refl) (sym d.2) d.3 given) in
    rw e (fits_when ls ms (λ l n a b x y. h l n a b x (inr y)))

pub all_accepted : AcceptedInEveryOrder
all_accepted h [] one = tt
all_accepted h (p ∷ ps) one =
    let e : all_links (h ++ p ∷ ps) ≡ all_links h ++ (links p.revs ++ all_links ps) = all_links-append h (p ∷ ps) in (
      fits_when (all_links h) (links p.revs) (λ l m a b x y. one l m a b (rw e (among_left l (all_links h) (links p.revs ++ all_links ps) x)) (rw e (among_right m (all_links h) (links p.revs ++ all_links ps) (among_left m (links p.revs) (all_links ps) y)))),
      all_accepted (h ++ p ∷ []) ps (rw (append_assoc h (p ∷ []) ps) one),
    )
