use denote.Ref.{Bor}
use Rattle.std.proofs.Common.{IfOk}
use Rattle.rayon.proofs.ListFacts.{AllZip-weaken}
use Rattle.mg_engine.specs.View.{command_view}
use Rattle.mg_log.specs.Entry.{entry_of}
use Rattle.mg_log.specs.declared.commit.Commit.{Commit}
use Rattle.mango_server.specs.Kept.{IsRowOf}
use Rattle.mango_server.proofs.Readiness.{Given, ready_together}
use Rattle.mango_server.proofs.replay.all_ready.Goals as goal

pub returns-in-Ok : goal.returns-in-Ok
returns-in-Ok g c =
    let chain = c.in-Ok.ensures.1 in
    let kept = rw (c.map.ensures.base, c.with_min_len.ensures.base, c.par_iter.ensures) at chain.1 in
    ready_together c.args.rows.now chain.0 c.in-Ok.ensures.0 c.in-Ok.all kept
    (AllZip-weaken _ (λ (d : Bor Commit) (given : Given). IfOk given (λ w. IsRowOf (entry_of d.now) (command_view w.command.value))) (λ d given h. h) chain.0 c.in-Ok.ensures.0 chain.2)
    c.in-Ok.ensures.2
