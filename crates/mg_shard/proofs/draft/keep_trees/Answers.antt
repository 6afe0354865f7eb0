use Rattle.std.proofs.Common.{List, sym, subst}
use Rattle.mg_shard.specs.Documents.{kept_documents}
use Rattle.mg_shard.specs.Draft.{TouchedStandFor, touched_of}
use Rattle.mg_shard.specs.Shard.{ShardView}
use Rattle.mg_shard.specs.declared.document.Document.{Document}
use Rattle.mg_shard.proofs.draft.keep_trees.Goals as goal

pub returns-clause-stands : goal.returns-clause-stands
returns-clause-stands c = λ hs st.
    let ts = touched_of c.args.touched.entries in
    c.in_ok-documents-2.ensures.stands hs
    (subst (λ (ds : List Document). TouchedStandFor (kept_documents ds) ts hs) (sym c.in_ok-documents.ensures)
    (subst (λ (v : ShardView). TouchedStandFor v.documents ts hs) (sym c.shard.view_is) st))
