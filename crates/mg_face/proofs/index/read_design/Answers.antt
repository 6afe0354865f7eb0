use Rattle.std.proofs.Common.{◌∙◌}
use Rattle.std.proofs.lemmas.Result.{IfOk-weaker}
use Rattle.mg_face.proofs.SegmentLemmas.{design_named}
use Rattle.mg_face.proofs.index.read_design.Goals as goal

pub returns-in_ok-name-in-len3 : goal.returns-in_ok-name-in-len3
returns-in_ok-name-in-len3 c =
    let named = design_named (λ s. s.now) c.args.segments.now _ _ c.in_ok-name-in-len3.ensures c.in-len3.len_at_least c.in-len3.len_below in
    IfOk-weaker c.design_of.result _ _ (λ p e. e ∙ named) c.design_of.ensures
