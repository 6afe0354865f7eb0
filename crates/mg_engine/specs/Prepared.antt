-- For private clauses: prepared commands. The documents of a bulk are read before the state to which the bulk is applied is known.
use Rattle.std.specs.Prelude.{◌≡◌, ℕ, Bool, List}
use Rattle.mg_doc.specs.Document.{Edit}
use Rattle.mg_engine.specs.Commands.{Asked, edits_effect, next, refused, reply_of, shards_after}
use Rattle.mg_engine.specs.Objects.{BringObjects}
use Rattle.mg_engine.specs.World.{World}
use Rattle.mg_engine.specs.declared.bulk.read.PreparedBulk.{PreparedBulk}
use Rattle.mg_engine.specs.declared.bulk.read.PreparedBulk.TheVariants.{Edits, Refused}
use Rattle.mg_engine.specs.declared.prepared.Task.{Task}
use Rattle.mg_engine.specs.declared.prepared.Task.TheVariants.{Apply, Execute}
use Rattle.mg_engine.specs.declared.refusal.Refusal.{Refusal}
use Rattle.mg_engine.specs.View.{command_view}

-- in every world the command has the effect of these edits
pub record Makes (new_edits : Bool) (es : List Edit) (c : Asked) : Type 0 where
  pub objects : BringObjects es
  pub reply : (w : World) → reply_of w c ≡ (edits_effect w new_edits es).answer
  pub world : (w : World) → next w c ≡ (edits_effect w new_edits es).world
  pub shards : (n : ℕ) → shards_after n c ≡ n

-- in every world the command is refused for this reason, and changes nothing
pub record AlwaysRefused (r : Refusal) (c : Asked) : Type 0 where
  pub reply : (w : World) → reply_of w c ≡ refused r
  pub world : (w : World) → next w c ≡ w
  pub shards : (n : ℕ) → shards_after n c ≡ n

-- what was read determines what the command does in every world
abbrev pub Determines : PreparedBulk → Asked → Type 0
Determines (Edits new_edits edits) c = Makes new_edits edits.items c
Determines (Refused r) c = AlwaysRefused r c

-- in every world the task does what the command asks
abbrev pub Does : Task → Asked → Type 0
Does (Apply read) c = Determines read c
Does (Execute command) c = command_view command ≡ c
