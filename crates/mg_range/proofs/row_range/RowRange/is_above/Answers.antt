use Rattle.std.proofs.Common.{Option, Some, sym, subst, ◌∙◌}
use Rattle.mg_range.proofs.InRows.{placed_past}
use Rattle.mg_range.specs.InRows.{HasEnds}
use Rattle.mg_range.specs.Range.{Range}
use Rattle.mg_range.specs.declared.row_range.SpanEnds.{SpanEnds}
use Rattle.mg_range.proofs.row_range.RowRange.is_above.Goals as goal

pub returns-in-Some : goal.returns-in-Some
returns-in-Some c =
    let ends = c.in-Some.ends in
    let has = subst (λ (o : Option SpanEnds). HasEnds c.self.inside.keys.now o) c.in-Some.is c.self.invariant in
    c.is_past.ensures ∙ sym (placed_past c.args.self.now ends c.args.row.now (subst (λ (r : Range). HasEnds r (Some ends)) c.self.view_is has))
