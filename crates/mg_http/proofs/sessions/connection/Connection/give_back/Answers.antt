use Rattle.mg_http.proofs.OutputLemmas.{room_if_sent}
use Rattle.mg_http.proofs.sessions.connection.Connection.give_back.Goals as goal

pub returns-then-is_unused-clause-room : goal.returns-then-is_unused-clause-room
returns-then-is_unused-clause-room c = λ room.
    room_if_sent c.args.self.now.output (c.is_unused.ensures.0 c.if-is_unused.true).3
