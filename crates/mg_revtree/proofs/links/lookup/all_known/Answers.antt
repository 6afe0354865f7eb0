use Rattle.std.proofs.Common.{◌≡◌, ◌∙◌, ◌-◌, ◌+◌, ◌&&◌, ℕ, true, false, drop, map, option_copied, option_map, string_bytes, sym, ap}
use Rattle.mg_revtree.specs.Revision.{Revision, run_from}
use Rattle.mg_revtree.specs.History.{are_known_whole, gives, is_known, links, parent_of}
use Rattle.mg_revtree.specs.Steps.{known_found}
use Rattle.mg_revtree.proofs.Joins.{held_known_parent}
use Rattle.mg_revtree.proofs.Runs.{all-next, newest_got}
use Rattle.mg_revtree.proofs.links.lookup.all_known.Goals as goal

pub loop-i-preserved : goal.loop-i-preserved
loop-i-preserved g c = λ ls nodes.
    let n = c.loop-i.pos in
    let id = string_bytes c.index-ids-i.result in
    let o = option_map {U = Revision} (λ p. (n - 1, string_bytes p)) (option_copied c.get.result) in
    let e : (is_known (n, id) ls && gives (parent_of (n, id) ls) o) ≡ true = sym (held_known_parent (n, id) ls o) ∙ ap (λ v. known_found v o) (sym (nodes.same (n, id))) ∙ sym c.is_known_with.ensures ∙ c.if-not-is_known_with.false in
    let newest = newest_got string_bytes (n - 1) c.args.ids.now (c.loop-i.i + 1) c.get.result c.get.ensures.lookup.3 in
    c.loop-i.invariant ls nodes
    ∙ all-next (λ l. is_known l.rev ls && gives (parent_of l.rev ls) l.parent) string_bytes n c.args.ids.now c.loop-i.i c.index-ids-i.result o c.loop-i-test.true c.index-ids-i.is newest true e
    ∙ ap (λ (m : ℕ). are_known_whole ls (links (run_from m (map string_bytes (drop (c.loop-i.i + 1) c.args.ids.now))))) (sym c.saturating_sub-pos.ensures)

pub returns-then-not-is_known_with : goal.returns-then-not-is_known_with
returns-then-not-is_known_with g c = λ ls nodes.
    let n = c.loop-i.pos in
    let id = string_bytes c.index-ids-i.result in
    let o = option_map {U = Revision} (λ p. (n - 1, string_bytes p)) (option_copied c.get.result) in
    let e : (is_known (n, id) ls && gives (parent_of (n, id) ls) o) ≡ false = sym (held_known_parent (n, id) ls o) ∙ ap (λ v. known_found v o) (sym (nodes.same (n, id))) ∙ sym c.is_known_with.ensures ∙ c.if-not-is_known_with.true in
    let newest = newest_got string_bytes (n - 1) c.args.ids.now (c.loop-i.i + 1) c.get.result c.get.ensures.lookup.3 in
    sym (c.loop-i.invariant ls nodes
    ∙ all-next (λ l. is_known l.rev ls && gives (parent_of l.rev ls) l.parent) string_bytes n c.args.ids.now c.loop-i.i c.index-ids-i.result o c.loop-i-test.true c.index-ids-i.is newest false e)
