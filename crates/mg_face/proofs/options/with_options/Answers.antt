use Rattle.std.proofs.Common.{◌∙◌, ap, codes}
use Rattle.mg_face.specs.Listing.{with_option, with_spelled}
use Rattle.mg_face.proofs.options.with_options.Goals as goal

pub returns : goal.returns
returns c =
    let q = c.args.query.now in
    c.in_ok-options-12.ensures ∙ ap (with_option q (codes "skip")) (c.in_ok-options-11.ensures ∙ ap (with_option q (codes "limit")) (c.in_ok-options-10.ensures ∙ ap (with_option q (codes "inclusive_end")) (c.in_ok-options-9.ensures ∙ ap (with_option q (codes "include_docs")) (c.in_ok-options-8.ensures ∙ ap (with_option q (codes "descending")) (c.in_ok-options-7.ensures ∙ ap (with_option q (codes "conflicts")) (c.in_ok-options-6.ensures ∙ ap (with_spelled q (codes "end_key") (codes "endkey")) (c.in_ok-options-5.ensures ∙ ap (with_option q (codes "endkey")) (c.in_ok-options-4.ensures ∙ ap (with_spelled q (codes "start_key") (codes "startkey")) (c.in_ok-options-3.ensures ∙ ap (with_option q (codes "startkey")) (c.in_ok-options-2.ensures ∙ ap (with_option q (codes "keys")) c.in_ok-options.ensures))))))))))
