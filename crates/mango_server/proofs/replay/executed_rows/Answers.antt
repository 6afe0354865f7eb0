use Rattle.std.proofs.Common.{◌≡◌, List, [], ◌++◌, refl, sym, ap, ◌∙◌, subst, arith, rules}
use Rattle.std.proofs.lemmas.List.{append-nil, append_assoc}
use Rattle.mg_engine.specs.Commands.{Asked}
use Rattle.mg_log.specs.Entry.{entries_of}
use Rattle.mg_log.specs.declared.commit.Commit.{Commit}
use Rattle.mg_machine.specs.Machine.{commands_of}
use Rattle.mango_server.specs.Kept.{AreRowsOf}
use Rattle.mango_server.specs.Ready.{writes_of}
use Rattle.mango_server.proofs.Readiness.{all_rows, nothing_left, one_more_group, parted}
use Rattle.mango_server.proofs.replay.executed_rows.Goals as goal

pub loop-rest-init : goal.loop-rest-init
loop-rest-init g c = let none : c.new-ready.result.items ≡ [] = search rules in ([], refl, rw (c.requires.fresh, none) tt)

pub loop-rest-smaller : goal.loop-rest-smaller
loop-rest-smaller g c = omega (arith, c.split_at.ensures.back_len, c.group_len.ensures.some, c.group_len.ensures.most)

pub loop-rest-preserved : goal.loop-rest-preserved
loop-rest-preserved g c =
    let done = c.loop-rest.invariant.0 in
    let group = c.split_at.result.0.now in
    let more = c.split_at.result.1.now in
    let parts = parted c.group_len.result c.loop-rest.rest.now group more c.split_at.ensures.front c.split_at.ensures.back in
    let seat = c.in_ok-seat.field-0-0 in
    let ready = c.in_ok-seat.field-0-1 in (
      done ++ group,
      c.loop-rest.invariant.1 ∙ ap (λ (rows : List Commit). done ++ rows) parts ∙ sym (append_assoc done group more),
      one_more_group done group (commands_of c.loop-rest.seat.seen ++ writes_of c.loop-rest.ready.items) (commands_of seat.seen ++ writes_of ready.items) ready.items
          c.loop-rest.invariant.2 c.in_ok-seat.ensures.ready (ap (λ (cs : List Asked). cs ++ writes_of ready.items) c.in_ok-seat.ensures.seen),
    )

pub returns : goal.returns
returns g c =
    let done = c.loop-rest.invariant.0 in
    let none = nothing_left c.loop-rest.rest.now c.loop-rest-test.ensures in
    let seen = commands_of c.loop-rest.seat.seen ++ writes_of c.loop-rest.ready.items in
    all_rows _ (λ s. commands_of s.seen) c.executed.result (entries_of c.args.rows.now) seen c.executed.ensures
    (subst (λ (rows : List Commit). AreRowsOf (entries_of rows) seen)
    (sym (c.loop-rest.invariant.1 ∙ ap (λ (rows : List Commit). done ++ rows) none ∙ append-nil done)) c.loop-rest.invariant.2)
