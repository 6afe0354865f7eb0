use Rattle.std.proofs.Common.{true}
use Rattle.mg_server.specs.Visits.{HasVisited}
use Rattle.mg_server.proofs.in_turn.answer_to_end.Given as goal

-- so far, visits took the service to its state
abbrev pub invariant-visits : goal.invariant-visits
invariant-visits g l = HasVisited g.S.Handover.follows (g.C.Conversation.told true) l.fn.service l.service
