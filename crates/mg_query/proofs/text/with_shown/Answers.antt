use Rattle.std.proofs.Common.{◌++◌, ap, ◌∙◌}
use Rattle.mg_value.specs.Text.{compact}
use Rattle.mg_query.proofs.text.with_shown.Goals as goal

pub returns : goal.returns
returns c = λ columns x l.
    c.in_ok-extend_from_slice.ensures.items
    ∙ ap (λ t. c.args.out.items ++ t) (c.deref.ensures.value ∙ c.in_ok-text.ensures.text ∙ ap compact (c.in_ok-doc.ensures columns x l))
