use Rattle.mg_engine.specs.Stands.{Stands}
use Rattle.mg_http.specs.AtWorld.{AtWorld}
use Rattle.mg_http.specs.Device.{was_starved}
use Rattle.mg_http.proofs.StandingLemmas.{at_world, converses}
use Rattle.mg_http.proofs.TranscriptLemmas.{holds_at}
use Rattle.mg_http.proofs.sessions.service.Solo.serve.Goals as goal

pub returns-clause-transcript : goal.returns-clause-transcript
returns-clause-transcript g c = λ w h.
    let t = c.session.ensures.transcript in
    let place = g.P.Placement.place in
    let done = converses _ AtWorld (λ s v. Stands place s.engine v) c.args.db.now (λ old command reply new v a st. at_world (λ x. Stands place new.engine x) v command reply (a.0 v st)) c.args.self.now t.bytes t.written c.session.new.service (was_starved c.session.new.reader) c.session.result w t.conversation h in
    (done.0, holds_at c.args.db.now _ _ _ w done.0 c.session.result t.bytes t.written t.input t.output done.1 t.limit, done.2)
