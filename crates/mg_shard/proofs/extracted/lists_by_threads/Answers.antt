use denote.Ref.{Bor}
use Rattle.std.proofs.Common.{◌≡◌, IfOk}
use Rattle.rayon.proofs.ListFacts.{AllZip-weaken}
use Rattle.mg_pages.specs.Runs.{elements_view}
use Rattle.mg_shard.specs.Documents.{docs_in}
use Rattle.mg_shard.specs.Rows.{rows_of}
use Rattle.mg_shard.proofs.Extracting.{Given, Piece, lists_together}
use Rattle.mg_shard.proofs.extracted.lists_by_threads.Goals as goal

pub returns : goal.returns
returns g c =
    let chain = c.in_ok-lists.ensures.1 in
    let columns = c.args.columns.now in
    let pieces = rw (c.map.ensures.base, c.with_min_len.ensures.base, c.par_iter.ensures) at chain.1 in
    lists_together columns c.args.pieces.now chain.0 c.in_ok-lists.ensures.0 c.in_ok-lists.lists pieces
    (AllZip-weaken _ (λ (p : Bor Piece) (given : Given). IfOk given (λ v. v.items ≡ rows_of columns (docs_in (elements_view p.now.now)))) (λ p given h. rw c.map.ensures.f at h) chain.0 c.in_ok-lists.ensures.0 chain.2)
    c.in_ok-lists.ensures.2
