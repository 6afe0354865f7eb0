-- Which replies accept their commands, and which state a command on indexes leaves.
use Rattle.std.specs.Prelude.{◌≡◌, ℕ, List, Bool, false, ◌||◌, ◌==◌, map, Option, None, is_some, Result, Ok, Err}
use Rattle.std.specs.Option.{option_map_or}
use Rattle.mg_index.specs.Catalog.{with_definition, without_definition}
use Rattle.mg_index.specs.Definition.{IndexDefinition}
use Rattle.mg_shard.specs.Shard.{ShardView}
use Rattle.mg_scan.specs.Built.{with_index}
use Rattle.mg_engine.specs.Commands.{Answer}
use Rattle.mg_engine.specs.Stands.{StateView}
use Rattle.mg_engine.specs.View.{reply_view}
use Rattle.mg_engine.specs.declared.reply.Reply.{Reply}
use Rattle.mg_engine.specs.declared.reply.Reply.TheVariants.{NoMemory}

-- whether an answer accepts its command: its status is 200 or 201
abbrev pub is_accepted : Answer → Bool
is_accepted a = a.status == 200 || a.status == 201

-- whether a reply accepts its command; `NoMemory` does not
abbrev pub accepts : Reply → Bool
accepts r = option_map_or is_accepted (reply_view r) false

-- there is a next state, which may equal the one before it, if and only if the reply accepts its command
abbrev pub IsSettled : {X : Type 0} → Reply → Option X → Type 0
IsSettled r next = is_some next ≡ accepts r

-- a shard without the index of this design document and name
abbrev pub shard_without : List ℕ → List ℕ → ShardView → ShardView
shard_without ddoc name s = record s { definitions = without_definition ddoc name s.definitions }

-- a state with this index on each of its shards
abbrev pub state_with : IndexDefinition → StateView → StateView
state_with d s = record s { catalog = with_definition d s.catalog; shards = map (with_index d) s.shards }

-- a state without the index of this design document and name, on each of its shards
abbrev pub state_without : List ℕ → List ℕ → StateView → StateView
state_without ddoc name s = record s { catalog = without_definition ddoc name s.catalog; shards = map (shard_without ddoc name) s.shards }

-- the reply that was made, or `NoMemory`
abbrev pub reply_made : {E : Type 0} → Result Reply E → Reply
reply_made (Ok reply) = reply
reply_made (Err e) = NoMemory

-- what a write made, or `NoMemory` without a next state
abbrev pub settled_of : {X E : Type 0} → Result (Reply × Option X) E → Reply × Option X
settled_of (Ok made) = made
settled_of (Err e) = (NoMemory, None)
