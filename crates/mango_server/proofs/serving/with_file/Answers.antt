use Rattle.std.proofs.Common.{sym, ◌∙◌}
use Rattle.mango_server.proofs.Seats.{last_is_new}
use Rattle.mango_server.proofs.serving.with_file.Goals as goal

pub stored-requires-clause-fresh : goal.stored-requires-clause-fresh
stored-requires-clause-fresh g c κs within = last_is_new c.requires.fresh.0 c.pop.new.self.items c.in-Some-Ok.seat (sym c.requires.fresh.1 ∙ c.in-Some-Ok.ensures.items)
