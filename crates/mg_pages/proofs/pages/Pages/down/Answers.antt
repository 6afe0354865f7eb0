use Rattle.std.proofs.Common.{◌∙◌, ap, reverse}
use Rattle.mg_pages.proofs.Lent.{ended_whole}
use Rattle.mg_pages.proofs.pages.Pages.down.Goals as goal

pub returns : goal.returns
returns g c = c.at.ensures ∙ ap reverse (ended_whole g.T.Keyed.order g.met.T.Keyed.total c.last_run-run.result.now c.args.self.now c.last_run-run.ensures.run c.last_run-run.ensures.ascends)
