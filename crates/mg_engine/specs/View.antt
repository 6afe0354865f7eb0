-- What the program's commands and replies stand for.
use Rattle.std.specs.Prelude.{Option, Some, None, string_bytes}
use Rattle.mg_value.specs.View.{view}
use Rattle.mg_engine.specs.Commands.{Asked, bulk, create_index, drop_index, list_indexes, find, explain, get, reshard, Answer, refused}
use Rattle.mg_engine.specs.declared.command.Command.{Command}
use Rattle.mg_engine.specs.declared.command.Command.TheVariants.{Bulk, PackedBulk, CreateIndex, DropIndex, ListIndexes, Find, Explain, Get, Reshard}
use Rattle.mg_engine.specs.declared.reply.Reply.{Reply}
use Rattle.mg_engine.specs.declared.reply.Reply.TheVariants.{Full, NoMemory}
use Rattle.mg_engine.specs.declared.refusal.Refusal.TheVariants.{OutOfMemory}

-- what a command asks
abbrev pub command_view : Command → Asked
command_view (Bulk body) = bulk (view body)
command_view (PackedBulk body) = bulk body
command_view (CreateIndex body) = create_index (view body)
command_view (DropIndex ddoc name) = drop_index (string_bytes ddoc) (string_bytes name)
command_view ListIndexes = list_indexes
command_view (Find body) = find (view body)
command_view (Explain body) = explain (view body)
command_view (Get id conflicts) = get (string_bytes id) conflicts
command_view (Reshard body) = reshard (view body)

-- a complete reply as an answer; `None` for `NoMemory`
abbrev pub reply_view : Reply → Option Answer
reply_view (Full status body) = Some (record { status = status; body = body.items })
reply_view NoMemory = None

-- the answer that a client gets; for `NoMemory`, the refusal `OutOfMemory`
abbrev pub answer_in : Reply → Answer
answer_in (Full status body) = record { status = status; body = body.items }
answer_in NoMemory = refused OutOfMemory
