-- Reshards among other commands: they change no other reply, and leave the same world.
use Rattle.std.proofs.Common.{◌≡◌, List, [], ◌∷◌, refl, ap}
use Rattle.mg_engine.specs.Commands.{Asked, bulk, create_index, drop_index, list_indexes, find, explain, get, reshard, next, replies_of, reply_of, world_after}
use Rattle.mg_engine.specs.Laws.{other_answers, without_reshards}
use Rattle.mg_engine.specs.World.{World}

pub no_other_reply : (w : World) (cs : List Asked) → other_answers cs (replies_of w cs) ≡ replies_of w (without_reshards cs)
no_other_reply w [] = refl
no_other_reply w (bulk v ∷ cs) = ap (λ rs. reply_of w (bulk v) ∷ rs) (no_other_reply (next w (bulk v)) cs)
no_other_reply w (create_index v ∷ cs) = ap (λ rs. reply_of w (create_index v) ∷ rs) (no_other_reply (next w (create_index v)) cs)
no_other_reply w (drop_index ddoc name ∷ cs) = ap (λ rs. reply_of w (drop_index ddoc name) ∷ rs) (no_other_reply (next w (drop_index ddoc name)) cs)
no_other_reply w (list_indexes ∷ cs) = ap (λ rs. reply_of w list_indexes ∷ rs) (no_other_reply w cs)
no_other_reply w (find v ∷ cs) = ap (λ rs. reply_of w (find v) ∷ rs) (no_other_reply w cs)
no_other_reply w (explain v ∷ cs) = ap (λ rs. reply_of w (explain v) ∷ rs) (no_other_reply w cs)
no_other_reply w (get id conflicts ∷ cs) = ap (λ rs. reply_of w (get id conflicts) ∷ rs) (no_other_reply w cs)
no_other_reply w (reshard v ∷ cs) = no_other_reply w cs

pub same_world : (w : World) (cs : List Asked) → world_after w cs ≡ world_after w (without_reshards cs)
same_world w [] = refl
same_world w (bulk v ∷ cs) = same_world (next w (bulk v)) cs
same_world w (create_index v ∷ cs) = same_world (next w (create_index v)) cs
same_world w (drop_index ddoc name ∷ cs) = same_world (next w (drop_index ddoc name)) cs
same_world w (list_indexes ∷ cs) = same_world w cs
same_world w (find v ∷ cs) = same_world w cs
same_world w (explain v ∷ cs) = same_world w cs
same_world w (get id conflicts ∷ cs) = same_world w cs
same_world w (reshard v ∷ cs) = same_world w cs
