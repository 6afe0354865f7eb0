use Rattle.std.proofs.Common.{true}
use Rattle.mg_server.specs.Visits.{HasVisited}
use Rattle.mg_server.proofs.in_turn.serve_turns.Given as goal

-- so far, visits took the service to its state
abbrev pub invariant-turns : goal.invariant-turns
invariant-turns g l = HasVisited g.S.Handover.follows (g.C.Conversation.told true) l.fn.service l.service
