use Rattle.std.proofs.Common.{◌∙◌, ap, length, refl}
use Rattle.std.specs.Cmp.Lexicographic.{slice_cmp}
use Rattle.std.specs.FinMap.{entries}
use Rattle.std.specs.List.{filter_map}
use Rattle.std.specs.Ordering.{nat_cmp}
use Rattle.mg_shard.specs.Documents.{doc_entry}
use Rattle.mg_pages.specs.Reading.{beyond}
use Rattle.mg_engine.proofs.Ranging.{on_shard}
use Rattle.mg_engine.proofs.range.count_on.Goals as goal

pub returns : goal.returns
returns c =
    let start = c.args.start.now in
    let ds = c.args.shard.now.documents in
    c.count_docs_beyond.ensures (λ e. slice_cmp nat_cmp start e.0) (λ d. refl)
    ∙ ap (λ direction. length (filter_map doc_entry (beyond direction (λ e. slice_cmp nat_cmp start e.0) (entries ds)))) c.opposite.ensures
    ∙ on_shard c.args.direction start ds
