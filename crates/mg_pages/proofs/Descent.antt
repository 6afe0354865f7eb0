-- From a level to one of its children: what is true of the elements there, and what follows for all.
use Rattle.std.proofs.Common.{◌≡◌, ℕ, ◌+◌, ◌<◌, ◌≤◌, List, [], ◌++◌, append-nil, length, take, drop, Ordering, sym, ap, ◌∙◌, subst, arith}
use Rattle.mg_pages.specs.Order.{Ascends, above, below, found}
use Rattle.std.proofs.lemmas.List.{drop_all}
use Rattle.mg_pages.specs.Runs.{IsEndRun, IsPageAt, IsPiece}
use Rattle.mg_pages.specs.Search.{AllAbove, AllBelow}
use Rattle.mg_pages.specs.Subtree.{Subtree, elements_of, levels_of}
use Rattle.mg_pages.specs.Tree.{IsNodeAt, node_elements, node_levels}
use Rattle.mg_pages.specs.declared.tree.Node.{Node}
use Rattle.mg_pages.proofs.Counts.{count_below_children, count_within}
use Rattle.mg_pages.proofs.Levels.{child_above, child_ascends, child_below, child_found, elements_split, levels_fall}
use Rattle.mg_pages.proofs.Lent.{end_more, end_some}
use Rattle.mg_pages.proofs.Passed.{page_child}
use Rattle.mg_pages.proofs.Pieces.{piece_child}

module _ {T : Type 0} (n : Node T) (ts : List (Subtree T)) (i : ℕ) (it : IsNodeAt n ts i) (l : i < length ts) where
  pub node_lower : (us : List (Subtree T)) → levels_of us ≡ node_levels n → levels_of us < levels_of ts
  node_lower us e = omega (arith, e, it.levels, levels_fall ts i it.tree l it.at)

  module _ (xs : List T) (own : xs ≡ node_elements n) where
    node_own : it.tree.elements ≡ xs
    node_own = sym (own ∙ it.elements)

    pub node_ascends : (order : T → T → Ordering) → Ascends order (elements_of ts) → Ascends order xs
    node_ascends order s = subst (Ascends order) node_own (child_ascends ts i it.tree l it.at order s)

    pub node_within : length (elements_of (take i ts)) + length xs ≤ length (elements_of ts)
    node_within = omega (arith, ap length node_own, count_within ts i it.tree l it.at)

    pub node_piece : (page : List T) → IsPiece page xs → IsPiece page (elements_of ts)
    node_piece page p = piece_child ts i it.tree page l it.at (subst (IsPiece page) (sym node_own) p)

    pub node_page : (page : List T) (place left at : ℕ) → at ≡ length (elements_of (take i ts)) + left → IsPageAt page place left xs → IsPageAt page place at (elements_of ts)
    node_page page place left at e p = page_child ts i it.tree page place left at l it.at e (subst (IsPageAt page place left) (sym node_own) p)

    -- a run that ends the last child ends all
    pub node_ends : i + 1 ≡ length ts → (run : List T) → IsEndRun run xs → IsEndRun run (elements_of ts)
    node_ends last run r =
        let rest : drop (i + 1) ts ≡ [] = drop_all (i + 1) ts (omega (arith, last)) in
        let all : elements_of ts ≡ elements_of (take i ts) ++ xs =
        elements_split ts i it.tree l it.at ∙ ap (λ us. elements_of (take i ts) ++ (it.tree.elements ++ elements_of us)) rest ∙ ap (λ us. elements_of (take i ts) ++ us) (append-nil it.tree.elements ∙ node_own) in
        end_more run xs (elements_of (take i ts)) (elements_of ts) r (end_some run xs r (omega (arith, ap length node_own, it.some))) all

    module _ (against : T → Ordering) (low : AllBelow against (elements_of (take i ts))) (high : AllAbove against (elements_of (drop (i + 1) ts))) where
      pub node_found : found against xs ≡ found against (elements_of ts)
      node_found = sym (ap (found against) node_own) ∙ child_found ts i it.tree l it.at against low high

      pub node_above : above against (elements_of ts) ≡ above against xs ++ elements_of (drop (i + 1) ts)
      node_above = child_above ts i it.tree l it.at against low high ∙ ap (λ us. above against us ++ elements_of (drop (i + 1) ts)) node_own

      pub node_below : below against (elements_of ts) ≡ elements_of (take i ts) ++ below against xs
      node_below = child_below ts i it.tree l it.at against low high ∙ ap (λ us. elements_of (take i ts) ++ below against us) node_own

      pub node_count : length (below against (elements_of ts)) ≡ length (elements_of (take i ts)) + length (below against xs)
      node_count = count_below_children ts i it.tree l it.at against low high ∙ ap (λ us. length (elements_of (take i ts)) + length (below against us)) node_own
