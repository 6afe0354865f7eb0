-- The losers of a history are its leaves without the first and the deleted ones.
use Rattle.std.proofs.Common.{◌≡◌, ◌-◌, not, None, List, [], ◌∷◌, drop, filter, length, take, inl, inr, refl, ap, sym, ◌∙◌, arith}
use Rattle.std.proofs.lemmas.Grind.{common_steps}
use Rattle.mg_revtree.specs.Revision.{same_revision}
use Rattle.mg_revtree.specs.History.{Paths, Leaf, leaves_of}
use Rattle.mg_revtree.specs.Laws.{LeavesAreListed}
use Rattle.mg_revtree.specs.Losers.{losers_of}
use Rattle.mg_revtree.specs.Tree.{leaf_in, AreLeaves, AreLosers}
use Rattle.mg_revtree.proofs.Same.{two, same_is}
use Rattle.mg_revtree.proofs.Leaves.{apart-filter, leaf_in-kept, none-filter}
use Rattle.mg_revtree.proofs.Ranks.{are_ranked-filter}
use Rattle.mg_revtree.proofs.Lists.{are_leaves, decided, leaves_list}
use Rattle.mg_revtree.proofs.Winners.{no_winner, first_wins}

pub losers_are : (h : Paths) (ls : List Leaf) → AreLeaves h ls → AreLosers h (filter (λ l. not l.deleted) (drop 1 ls))
losers_are h [] leaves = record {
  same = λ r. rw (no_winner h leaves, ← leaves.same r) refl;
  apart = tt;
  ranked = tt;
}
losers_are h (l ∷ ls) leaves = record {
  same = λ r. rw (first_wins h l ls leaves, ← leaves.same r) (elim (two (same_revision r l.rev)) [
    | inl t ↦
        let n : leaf_in r ls ≡ None = ap (λ x. leaf_in x ls) (same_is r l.rev t) ∙ leaves.apart.0 in
        rw t (none-filter (λ l. not l.deleted) r ls n)
    | inr f ↦ rw (f, leaf_in-kept (λ l. not l.deleted) r ls leaves.apart.1) refl
  ]);
  apart = apart-filter (λ l. not l.deleted) ls leaves.apart.1;
  ranked = are_ranked-filter (λ l. not l.deleted) ls leaves.ranked.1;
}

pub are_losers : (h : Paths) → AreLosers h (losers_of h)
are_losers h = losers_are h (leaves_of h) (are_leaves h)

pub losers_list : (h : Paths) (ls : List Leaf) → AreLosers h ls → ls ≡ losers_of h
losers_list h ls is = let has = are_losers h in decided ls (losers_of h) is.apart has.apart is.ranked has.ranked (λ r. is.same r ∙ sym (has.same r))

-- the losers are those that are not deleted of all leaves but the first
pub losers_rest : (h : Paths) (ls v : List Leaf) → AreLeaves h ls → v ≡ ls → filter (λ l. not l.deleted) (take (length v - 1) (drop 1 v)) ≡ losers_of h
losers_rest h ls v leaves e =
    let rest : take (length v - 1) (drop 1 v) ≡ drop 1 v = grind (arith, common_steps) in
    ap (filter (λ l. not l.deleted)) (rest ∙ ap (drop 1) e) ∙ losers_list h (filter (λ l. not l.deleted) (drop 1 ls)) (losers_are h ls leaves)

pub leaves_are_listed : LeavesAreListed
leaves_are_listed = record { leaves = are_leaves; losers = are_losers; leaves_decided = leaves_list; losers_decided = losers_list }
