use Rattle.std.proofs.Common.{true}
use Rattle.mg_server.specs.Turns.{HasRead, HasWrote}
use Rattle.mg_server.proofs.visit.take_turns.Given as goal

-- so far, what was read was received, what was sent was written, and the service has answered the client last
abbrev pub invariant-turns : goal.invariant-turns
invariant-turns g l = record {
  told : (from now : _) → g.C.Conversation.told true from l.fn.conversation now → g.S.Handover.follows now l.fn.service → g.C.Conversation.told true from l.conversation l.service;
  read : HasRead (g.R.Read.remaining l.fn.reader) (g.R.Read.remaining l.reader) (g.C.Conversation.received l.fn.conversation) (g.C.Conversation.received l.conversation);
  wrote : HasWrote (g.W.Write.contents l.fn.writer) (g.W.Write.contents l.writer) (g.C.Conversation.sent l.fn.conversation) (g.C.Conversation.sent l.conversation);
}
