use Rattle.std.proofs.Common.{◌≡◌, ◌++◌, List, Option, map, drop, length, vec_len, vec_capacity}
use Rattle.mg_engine.specs.World.{World}
use Rattle.mg_engine.specs.Commands.{Answer, shards_after_all}
use Rattle.mg_engine.specs.View.{command_view, reply_view}
use Rattle.mg_engine.specs.Stands.{Stands, StateView, shard_count}
use Rattle.mg_engine.specs.Execution.{IsExecution, answered_commands}
use Rattle.mg_engine.proofs.engine.Engine.run.Given as goal

-- an execution of the rest, from a world that the engine stands for now, completes one of all; the same holds of the number of shards
abbrev pub invariant-loop-command : goal.invariant-loop-command
invariant-loop-command g l =
    let place = g.P.Placement.place in
    record {
      room : vec_capacity l.replies ≡ length l.commands;
      some : vec_len l.replies ≡ l.command-index;
      placement : l.self.0 ≡ l.fn.self.0;
      numbers : (rs : List (Option Answer)) → shards_after_all (shard_count l.self) (answered_commands (map command_view (drop l.command-index l.commands)) rs)
          ≡ shards_after_all (shard_count l.fn.self) (answered_commands (map command_view l.commands) (map reply_view l.replies.items ++ rs));
      goes_on : (w : World) → Stands place l.fn.self w
          → (u : World) × Stands place l.self u
          × ((rs : List (Option Answer)) (after : g.row.P.Denot × StateView) → IsExecution u (map command_view (drop l.command-index l.commands)) rs (Stands place after)
          → IsExecution w (map command_view l.commands) (map reply_view l.replies.items ++ rs) (Stands place after));
    }
