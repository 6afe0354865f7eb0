use Rattle.std.proofs.Common.{take, ap₂, ◌∙◌}
use Rattle.mg_pages.proofs.Between.{between_as, between_below, first_below}
use Rattle.mg_pages.proofs.pages.Pages.iter_before.Goals as goal

pub between-requires : goal.between-requires
between-requires g c =
    let order = g.T.Keyed.order in
    between_as c.up.ensures c.before-2.ensures c.count_below.ensures
    (between_below order (g.Q.Probe.against c.args.key.now) (g.met.Q.Probe.probes c.args.key.now) c.args.self.now c.ascends.ensures)

pub returns : goal.returns
returns g c =
    let order = g.T.Keyed.order in
    c.between.ensures ∙ ap₂ take c.count_below.ensures c.up.ensures
    ∙ first_below order (g.Q.Probe.against c.args.key.now) (g.met.Q.Probe.probes c.args.key.now) c.args.self.now c.ascends.ensures
