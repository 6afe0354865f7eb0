use Rattle.std.proofs.Common.{ap, is_eq, ◌∙◌}
use Rattle.std.specs.Cmp.Lexicographic.{slice_cmp, texts_ties}
use Rattle.std.specs.Ordering.{nat_cmp}
use Rattle.mg_pages.proofs.identified.RefStrProbeShared.ties.Goals as goal

pub returns : goal.returns
returns g c =
    let key = c.args.self.now.now in
    c.eq.ensures ∙ texts_ties key c.id.result.now
    ∙ ap (λ id. is_eq (slice_cmp nat_cmp key id)) (c.id.ensures ∙ ap g.X.Identified.id c.get.ensures)
