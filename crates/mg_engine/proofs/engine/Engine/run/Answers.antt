use Rattle.std.proofs.Common.{refl, ap, ◌+◌, ◌∙◌}
use Rattle.mg_engine.specs.View.{command_view, reply_view}
use Rattle.mg_engine.specs.Stands.{Stands, StateView, shard_count}
use Rattle.mg_engine.proofs.Numbers.{is_number_then, number_after, number_here}
use Rattle.mg_engine.proofs.Executions.{world_then, ends_then, goes_on_after, ends_here}
use Rattle.mg_engine.proofs.engine.Engine.run.Goals as goal

pub loop-command-init : goal.loop-command-init
loop-command-init g c =
    let made = c.in_ok-replies.ensures in
    record { room = made.exact; some = made.len; placement = refl; numbers = λ rs. rw made.items; goes_on = λ w h. (w, h, λ rs after run. rw made.items run) }

pub loop-command-preserved : goal.loop-command-preserved
loop-command-preserved g c =
    let stands = Stands g.P.Placement.place in
    let l = c.loop-command in
    let command = c.command-item.result in
    let reply = c.step-reply.result in
    let pushed = c.push_reserved.ensures in
    record {
      room = rw pushed.capacity l.invariant.room;
      some = rw pushed.len (ap (λ n. n + 1) l.invariant.some);
      placement = c.step-reply.ensures.placement ∙ l.invariant.placement;
      numbers = λ rs.
          let went = is_number_then (λ (e : g.row.P.Denot × StateView). shard_count e) l.self c.step-reply.new.self (command_view command) (reply_view reply) c.step-reply.ensures.refused c.step-reply.ensures.shards in
          rw pushed.items (number_after (shard_count c.args.self.now) (shard_count l.self) (shard_count c.step-reply.new.self) c.args.commands.now l.command-index command l.replies.items reply rs
          c.loop-command-test.true c.command-item.is went (λ rest. l.invariant.numbers rest));
      goes_on = λ w h.
          let now = l.invariant.goes_on w h in
          let did = c.step-reply.ensures.answers now.0 now.1 in (
            world_then now.0 (command_view command) (reply_view reply),
            ends_then now.0 (command_view command) (reply_view reply) (stands c.step-reply.new.self) did,
            λ rs after run. rw pushed.items (goes_on_after w now.0 c.args.commands.now l.command-index command l.replies.items reply (stands c.step-reply.new.self) (stands after) rs
                c.loop-command-test.true c.command-item.is did (λ rest. now.2 rest after) run),
          );
    }

pub returns-clause-run : goal.returns-clause-run
returns-clause-run g c = λ w h.
    let l = c.loop-command in
    let now = l.invariant.goes_on w h in
    ends_here w now.0 c.args.commands.now l.command-index l.replies.items (Stands g.P.Placement.place l.self) c.loop-command-test.false now.1 (λ rest. now.2 rest l.self)

pub returns-clause-shards : goal.returns-clause-shards
returns-clause-shards g c =
    let l = c.loop-command in
    number_here (shard_count c.args.self.now) (shard_count l.self) c.args.commands.now l.command-index l.replies.items c.loop-command-test.false (λ rest. l.invariant.numbers rest)
