use Rattle.std.proofs.Common.{◌≡◌, ◌∙◌, true, refl, sym}
use Rattle.mg_revtree.specs.History.{all_links, fits, is_known_whole, links}
use Rattle.mg_revtree.proofs.Replicas.{whole_fits}
use Rattle.mg_doc.proofs.Edits.{looks_want}
use Rattle.mg_doc.proofs.edit.apply.look_for.Goals as goal

pub returns-in_err-newest : goal.returns-in_err-newest
returns-in_err-newest c = λ h stands.
    let whole : is_known_whole h c.args.path.now ≡ true = sym (c.knows_whole.ensures h stands) ∙ c.if-knows_whole.true in
    let fit : fits h c.args.path.now ≡ true = whole_fits (all_links h) (links c.args.path.now) whole in
    looks_want h c.args.path.now c.from_residual.result fit c.from_residual.ensures.1

pub returns-then-knows_whole : goal.returns-then-knows_whole
returns-then-knows_whole c = λ h stands. (c.in_ok-newest.ensures, sym (c.knows_whole.ensures h stands) ∙ c.if-knows_whole.true)

pub returns-then-not-fits : goal.returns-then-not-fits
returns-then-not-fits c = λ h stands. (refl, sym (c.fits.ensures h stands) ∙ c.if-not-fits.true)

pub returns : goal.returns
returns c = λ h stands. (sym (c.fits.ensures h stands) ∙ c.if-not-fits.false, sym (c.knows_whole.ensures h stands) ∙ c.if-knows_whole.false)
