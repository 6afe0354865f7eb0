use Rattle.std.proofs.Common.{[], sym, ◌∙◌, append-nil}
use Rattle.std.proofs.KnownBytes.{Appends-nil}
use Rattle.mg_http.proofs.sessions.exchange.exchange.Goals as goal

pub returns-in-None-clause-wrote : goal.returns-in-None-clause-wrote
returns-in-None-clause-wrote g c = ([], Appends-nil _, c.fetch.ensures.sent ∙ sym (append-nil _))
