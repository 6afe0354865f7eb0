use Rattle.std.proofs.Common.{refl}
use Rattle.mg_value.specs.View.{view}
use Rattle.mg_http.proofs.sessions.answer.read_command.Goals as goal

pub returns-in_ok-read_in-in-Find-clause-ok : goal.returns-in_ok-read_in-in-Find-clause-ok
returns-in_ok-read_in-in-Find-clause-ok c = (view c.in_ok-read_in-in-Find.field-0, c.in_ok-read_in-in-Find.ensures.ok, rw c.in-Find.is refl)

pub returns-in_ok-read_in-in-Explain-clause-ok : goal.returns-in_ok-read_in-in-Explain-clause-ok
returns-in_ok-read_in-in-Explain-clause-ok c = (view c.in_ok-read_in-in-Explain.field-0, c.in_ok-read_in-in-Explain.ensures.ok, rw c.in-Explain.is refl)

pub returns-in_ok-read_in-in-CreateIndex-clause-ok : goal.returns-in_ok-read_in-in-CreateIndex-clause-ok
returns-in_ok-read_in-in-CreateIndex-clause-ok c = (view c.in_ok-read_in-in-CreateIndex.field-0, c.in_ok-read_in-in-CreateIndex.ensures.ok, rw c.in-CreateIndex.is refl)

pub returns-in_ok-read_in-in-Reshard-clause-ok : goal.returns-in_ok-read_in-in-Reshard-clause-ok
returns-in_ok-read_in-in-Reshard-clause-ok c = (view c.in_ok-read_in-in-Reshard.field-0, c.in_ok-read_in-in-Reshard.ensures.ok, rw c.in-Reshard.is refl)
