use denote.Ref.{Bor}
use Rattle.std.proofs.Common.{◌≡◌, List, IfOk, arith}
use Rattle.rayon.proofs.ListFacts.{AllZip-weaken}
use Rattle.mg_collate.specs.Row.{RowValue}
use Rattle.mg_shard.proofs.Extracting.{Made, pages_some, pages_together}
use Rattle.mg_shard.proofs.extracted.new_pages.Goals as goal

pub returns-clause-some : goal.returns-clause-some
returns-clause-some g c =
    let chain = rw (c.map.ensures.base, c.with_min_len.ensures.base, c.par_chunks.ensures.slice, c.par_chunks.ensures.size) at c.in_ok-pages.ensures.1 in
    pages_some 48 c.args.rows.now chain.0 c.in_ok-pages.ensures.0 c.in_ok-pages.pages (omega arith) chain.1
    (AllZip-weaken _ (λ (chunk : Bor (List RowValue)) (given : Made). IfOk given (λ p. p ≡ chunk.now)) (λ chunk given h. h) chain.0 c.in_ok-pages.ensures.0 chain.2)
    c.in_ok-pages.ensures.2

pub returns-clause-rows : goal.returns-clause-rows
returns-clause-rows g c =
    let chain = rw (c.map.ensures.base, c.with_min_len.ensures.base, c.par_chunks.ensures.slice, c.par_chunks.ensures.size) at c.in_ok-pages.ensures.1 in
    pages_together 48 c.args.rows.now chain.0 c.in_ok-pages.ensures.0 c.in_ok-pages.pages (omega arith) chain.1
    (AllZip-weaken _ (λ (chunk : Bor (List RowValue)) (given : Made). IfOk given (λ p. p ≡ chunk.now)) (λ chunk given h. h) chain.0 c.in_ok-pages.ensures.0 chain.2)
    c.in_ok-pages.ensures.2
