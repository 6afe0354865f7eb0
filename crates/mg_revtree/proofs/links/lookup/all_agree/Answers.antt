use Rattle.std.proofs.Common.{◌≡◌, ◌∙◌, ◌-◌, ◌+◌, ℕ, true, drop, map, option_copied, option_map, string_bytes, sym, ap}
use Rattle.mg_revtree.specs.Revision.{Revision, run_from}
use Rattle.mg_revtree.specs.History.{agrees, fit, links, parent_of}
use Rattle.mg_revtree.specs.Steps.{agrees_found}
use Rattle.mg_revtree.proofs.Joins.{agrees_known_parent}
use Rattle.mg_revtree.proofs.Runs.{all-next, newest_got}
use Rattle.mg_revtree.proofs.links.lookup.all_agree.Goals as goal

pub loop-i-preserved : goal.loop-i-preserved
loop-i-preserved g c = λ ls nodes.
    let n = c.loop-i.pos in
    let id = string_bytes c.index-ids-i.result in
    let o = option_map {U = Revision} (λ p. (n - 1, string_bytes p)) (option_copied c.get.result) in
    let e : agrees (parent_of (n, id) ls) o ≡ true = sym (agrees_known_parent (n, id) ls o) ∙ ap (λ v. agrees_found v o) (sym (nodes.same (n, id))) ∙ sym c.agrees.ensures ∙ c.if-not-agrees.false in
    let newest = newest_got string_bytes (n - 1) c.args.ids.now (c.loop-i.i + 1) c.get.result c.get.ensures.lookup.3 in
    c.loop-i.invariant ls nodes
    ∙ all-next (λ l. agrees (parent_of l.rev ls) l.parent) string_bytes n c.args.ids.now c.loop-i.i c.index-ids-i.result o c.loop-i-test.true c.index-ids-i.is newest true e
    ∙ ap (λ (m : ℕ). fit ls (links (run_from m (map string_bytes (drop (c.loop-i.i + 1) c.args.ids.now))))) (sym c.saturating_sub-pos.ensures)
