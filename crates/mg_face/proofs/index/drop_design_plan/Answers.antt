use Rattle.std.proofs.Common.{◌∙◌}
use Rattle.std.proofs.lemmas.Result.{IfOk-weaker}
use Rattle.mg_face.proofs.SegmentLemmas.{design_index}
use Rattle.mg_face.proofs.index.drop_design_plan.Goals as goal

pub returns-in_ok-name-in-len6 : goal.returns-in_ok-name-in-len6
returns-in_ok-name-in-len6 c =
    let named =
    design_index (λ s. s.now) c.args.segments.now _ _ _ _ c.in_ok-ddoc-in-len6.ensures c.in_ok-name-in-len6.ensures c.in-len6.len_at_least c.in-len6.len_below in
    IfOk-weaker c.index_of.result _ _ (λ p e. e ∙ named) c.index_of.ensures
