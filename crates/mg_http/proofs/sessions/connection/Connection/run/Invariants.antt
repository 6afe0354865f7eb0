use Rattle.std.proofs.Common.{◌≡◌, ◌-◌, None}
use Rattle.mg_http.specs.Connection.{IsReady, IsQuiet, Runs}
use Rattle.mg_http.proofs.sessions.connection.Connection.run.Given as goal

abbrev pub invariant-loop : goal.invariant-loop
invariant-loop g l = record {
  quiet : IsQuiet l.fn.self l.self;
  runs : IsReady l.fn.self → Runs g.S.Service.answers l.fn.self l.fn.service l.self l.service;
  stays : (¬ (l.fn.self.end ≡ None)) → (l.self ≡ l.fn.self) × (l.service ≡ l.fn.service);
}

abbrev pub decreases-loop : goal.decreases-loop
decreases-loop g l = 4294967295 - l.self.messages
