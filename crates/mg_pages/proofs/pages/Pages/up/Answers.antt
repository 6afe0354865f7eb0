use Rattle.std.proofs.Common.{◌∙◌}
use Rattle.mg_pages.proofs.Lent.{continued_whole}
use Rattle.mg_pages.proofs.pages.Pages.up.Goals as goal

pub returns : goal.returns
returns g c = c.at.ensures ∙ continued_whole g.T.Keyed.order g.met.T.Keyed.total c.first_run-run.result.now c.args.self.now c.first_run-run.ensures.run c.first_run-run.ensures.ascends
