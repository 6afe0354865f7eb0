use Rattle.std.proofs.Common.{subst, sym}
use Rattle.std.proofs.lemmas.List.{take_rest}
use Rattle.mg_pages.specs.Order.{above}
use Rattle.mg_pages.specs.Runs.{IsRun}
use Rattle.mg_pages.specs.Subtree.{elements_of}
use Rattle.mg_pages.proofs.Pieces.{piece_ascends, run_above}
use Rattle.mg_pages.proofs.look.guessed_run_after.Goals as goal

pub place_within-requires : goal.place_within-requires
place_within-requires g c = piece_ascends g.T.Keyed.order c.guessed_page-page.result.now (elements_of c.args.children.now) c.guessed_page-page.ensures c.requires

pub returns : goal.returns
returns g c =
    let key = g.Q.Probe.against c.args.key.now in
    let page = c.guessed_page-page.result.now in
    let xs = elements_of c.args.children.now in
    subst (λ us. IsRun us (above key xs)) (sym (take_rest page c.in_ok-i.i))
    (run_above key g.T.Keyed.order (g.met.Q.Probe.probes c.args.key.now) xs page c.guessed_page-page.ensures c.requires c.in_ok-i.i c.in_ok-i.ensures)
