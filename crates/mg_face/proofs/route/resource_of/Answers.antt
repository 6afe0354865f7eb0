use Rattle.mg_face.proofs.SegmentLemmas.{three_segments, five_segments, six_segments}
use Rattle.mg_face.proofs.route.resource_of.Goals as goal

pub returns-in-len3 : goal.returns-in-len3
returns-in-len3 c =
    three_segments (λ s. s.now) c.args.segments.now _ c.three_resource.result c.three_resource.ensures c.in-len3.len_at_least c.in-len3.len_below

pub returns-in-len5 : goal.returns-in-len5
returns-in-len5 c =
    five_segments (λ s. s.now) c.args.segments.now _ _ c.index_resource.result c.index_resource.ensures c.in-len5.len_at_least c.in-len5.len_below

pub returns-in-len6 : goal.returns-in-len6
returns-in-len6 c =
    six_segments (λ s. s.now) c.args.segments.now _ _ _ c.design_resource.result c.design_resource.ensures c.in-len6.len_at_least c.in-len6.len_below
