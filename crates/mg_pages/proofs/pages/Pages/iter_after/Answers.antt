use Rattle.std.proofs.Common.{take, ap₂, ◌∙◌}
use Rattle.mg_pages.specs.Order.{above}
use Rattle.mg_pages.proofs.Between.{between_above, between_as, take_whole}
use Rattle.mg_pages.proofs.pages.Pages.iter_after.Goals as goal

pub between-requires : goal.between-requires
between-requires g c =
    let order = g.T.Keyed.order in
    between_as c.after.ensures c.down.ensures c.count_above.ensures
    (between_above order (g.Q.Probe.against c.args.key.now) (g.met.Q.Probe.probes c.args.key.now) c.args.self.now c.ascends.ensures)

pub returns : goal.returns
returns g c = c.between.ensures ∙ ap₂ take c.count_above.ensures c.after.ensures ∙ take_whole (above (g.Q.Probe.against c.args.key.now) c.args.self.now)
