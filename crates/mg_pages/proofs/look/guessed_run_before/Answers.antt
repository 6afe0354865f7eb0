use Rattle.mg_pages.specs.Subtree.{elements_of}
use Rattle.mg_pages.proofs.Pieces.{piece_ascends, run_below}
use Rattle.mg_pages.proofs.look.guessed_run_before.Goals as goal

pub place_within-requires : goal.place_within-requires
place_within-requires g c = piece_ascends g.T.Keyed.order c.guessed_page-page.result.now (elements_of c.args.children.now) c.guessed_page-page.ensures c.requires

pub returns : goal.returns
returns g c =
    run_below (g.Q.Probe.against c.args.key.now) g.T.Keyed.order (g.met.Q.Probe.probes c.args.key.now) (elements_of c.args.children.now) c.guessed_page-page.result.now c.guessed_page-page.ensures c.requires c.in_ok-i.i c.in_ok-i.ensures
