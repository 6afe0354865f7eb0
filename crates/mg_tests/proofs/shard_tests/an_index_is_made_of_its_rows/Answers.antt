use Rattle.std.proofs.Common.{◌≡◌, List, [], ◌∷◌, length, refl, sym, ap, ◌∙◌}
use Rattle.mg_shard.proofs.Shown.{bytes_cmp}
use Rattle.std.specs.FinMap.{empty, entries, len-empty, len-entries}
use Rattle.std.specs.List.{filter_map}
use Rattle.mg_collate.specs.Row.{rows_view}
use Rattle.mg_shard.specs.Documents.{KeptDocument, KeptDocuments, doc_entry, docs_of}
use Rattle.mg_shard.specs.Rows.{rows_of}
use Rattle.mg_tests.proofs.shard_tests.an_index_is_made_of_its_rows.Goals as goal

nothing : {A : Type 0} (es : List A) → length es ≡ 0 → es ≡ []
nothing [] none = refl
nothing (e ∷ es) none = absurd cc

pub with_rows-requires : goal.with_rows-requires
with_rows-requires g c =
    let columns = c.expect-definition.result.columns in
    let m : KeptDocuments = empty in
    let none = nothing (entries m) (sym (len-entries m) ∙ len-empty bytes_cmp KeptDocument) in
    ap rows_view c.new.ensures.items
    ∙ sym (ap (λ es. rows_of columns (filter_map doc_entry es)) none)
    ∙ ap (λ ds. rows_of columns (docs_of ds)) (sym c.new-shard.ensures.documents)
