use Rattle.std.proofs.Common.{◌≡◌, Equal, sym, ◌∙◌}
use Rattle.mg_pages.specs.Subtree.{elements_of}
use Rattle.mg_pages.proofs.Lasts.{found_among}
use Rattle.mg_pages.proofs.Pieces.{piece_among}
use Rattle.mg_pages.proofs.Sorted.{equal_from_test}
use Rattle.mg_pages.proofs.look.find_tie.Goals as goal

pub returns-then-ties : goal.returns-then-ties
returns-then-ties g c =
    let key = g.Q.Probe.against c.args.key.now in
    let xs = elements_of c.args.children.now in
    let element = c.index-page-i.result in
    let ties : key element ≡ Equal = equal_from_test (key element) (sym c.ties.ensures ∙ c.if-ties.true) in
    let among = piece_among c.guessed_page-page.result.now xs c.guessed_page-page.ensures c.guess-i.result element c.if-i-page.true c.index-page-i.is in
    found_among g.T.Keyed.order key (g.met.Q.Probe.probes c.args.key.now) xs element c.requires among ties
