use Rattle.std.proofs.Common.{◌≡◌, ◌∙◌, true, false, not, filter, Some, None, is_some, map, string_bytes, sym, ap, subst, List, ℕ, arith}
use Rattle.mg_revtree.specs.Revision.{Revision, run_from}
use Rattle.mg_revtree.specs.History.{Leaf, all_links, is_known, has_child, links, newest_of, ranked_with}
use Rattle.mg_revtree.specs.Tree.{AreApart, AreRanked, Tree, StandsFor, find, leaf_in}
use Rattle.mg_revtree.proofs.Runs.{newest_is, run_is, length-map}
use Rattle.mg_revtree.proofs.Step.{found_known, stands_known, stands_new, unknown_no_leaf}
use Rattle.mg_revtree.proofs.Ranks.{are_ranked-filter}
use Rattle.mg_revtree.specs.Changes.{path_of}
use Rattle.mg_revtree.proofs.grown.Grown.accept.Goals as goal

pub returns-then-known-clause-accepted : goal.returns-then-known-clause-accepted
returns-then-known-clause-accepted c = λ h stands.
    let kept = c.self.inside.links in
    let leaves = c.self.inside.leaves.items in
    let rs = run_from c.args.start (map string_bytes c.args.ids.now) in
    let q : Revision = (c.args.start, string_bytes c.index-ids-0.result) in
    let s : StandsFor (record { links = kept; leaves = leaves }) h = subst (λ (t : Tree). StandsFor t h) (sym c.self.view_is) stands in
    let newest : newest_of rs ≡ Some q = newest_is string_bytes c.args.start c.args.ids.now c.index-ids-0.result c.requires.some c.index-ids-0.is in
    let left = c.unleaf.new.leaves.items in
    let unleafed : left ≡ filter (λ l. not (has_child l.rev (links rs))) leaves = subst (λ (v : List Leaf). left ≡ filter (λ l. not (has_child l.rev (links rs))) v) c.reserve.ensures.items (c.unleaf.ensures.kept (subst AreRanked (sym c.reserve.ensures.items) s.leaves.ranked) (subst AreApart (sym c.reserve.ensures.items) s.leaves.apart)) in
    let k : is_some (find q kept) ≡ true = sym (c.knows-known.ensures s.known.sorted) ∙ c.if-known.true in
    stands_known h rs c.args.deleted c.args.body q kept c.join.new.self leaves left newest s (c.in_ok-join.ensures.joined (all_links h) s.known) unleafed k

pub returns-clause-accepted : goal.returns-clause-accepted
returns-clause-accepted c = λ h stands.
    let kept = c.self.inside.links in
    let leaves = c.self.inside.leaves.items in
    let rs = run_from c.args.start (map string_bytes c.args.ids.now) in
    let q : Revision = (c.args.start, string_bytes c.index-ids-0.result) in
    let s : StandsFor (record { links = kept; leaves = leaves }) h = subst (λ (t : Tree). StandsFor t h) (sym c.self.view_is) stands in
    let newest : newest_of rs ≡ Some q = newest_is string_bytes c.args.start c.args.ids.now c.index-ids-0.result c.requires.some c.index-ids-0.is in
    let left = c.unleaf.new.leaves.items in
    let unleafed : left ≡ filter (λ l. not (has_child l.rev (links rs))) leaves = subst (λ (v : List Leaf). left ≡ filter (λ l. not (has_child l.rev (links rs))) v) c.reserve.ensures.items (c.unleaf.ensures.kept (subst AreRanked (sym c.reserve.ensures.items) s.leaves.ranked) (subst AreApart (sym c.reserve.ensures.items) s.leaves.apart)) in
    let k : is_some (find q kept) ≡ false = sym (c.knows-known.ensures s.known.sorted) ∙ c.if-known.false in
    let leaf : Leaf = record { rev = q; deleted = c.args.deleted; body = c.args.body } in
    let u : is_known q (all_links h) ≡ false = sym (found_known q (all_links h) kept (s.known.same q)) ∙ k in
    let made : c.in_ok-leaf.leaf ≡ leaf = c.in_ok-leaf.ensures ∙ ap (λ (t : List ℕ). (let l : Leaf = record { rev = (c.args.start, t); deleted = c.args.deleted; body = c.args.body } in l)) (c.in_ok-copy_of.ensures.copy ∙ c.deref.ensures) in
    let ordered : AreRanked left = subst AreRanked (sym unleafed) (are_ranked-filter (λ l. not (has_child l.rev (links rs))) leaves s.leaves.ranked) in
    let none : leaf_in q left ≡ None = rw unleafed (unknown_no_leaf h (path_of rs c.args.deleted c.args.body) q newest leaves s.leaves.same u) in
    let more : c.add_leaf.new.leaves.items ≡ ranked_with leaf left = c.add_leaf.ensures ordered (subst (λ (l : Leaf). leaf_in l.rev left ≡ None) (sym made) none) ∙ ap (λ (l : Leaf). ranked_with l left) made in
    stands_new h rs c.args.deleted c.args.body q kept c.join.new.self leaves left newest s (c.in_ok-join.ensures.joined (all_links h) s.known) unleafed k (run_is c.args.start (map string_bytes c.args.ids.now) (omega (arith, length-map string_bytes c.args.ids.now, c.requires.run))) c.add_leaf.new.leaves.items more
