use Rattle.std.proofs.Common.{◌≡◌, false}
use Rattle.mg_http.specs.Device.{inner_of, has_failed}
use Rattle.mg_http.proofs.UnderWayLemmas.{IsUnderWay}
use Rattle.mg_http.proofs.sessions.session.Given as goal

abbrev pub invariant-loop : goal.invariant-loop
invariant-loop g l = record {
  steps : (goal.iterator-loop g).can_next l.iterator';
  finite : (goal.iterator-loop g).is_finite l.iterator';
  under_way : IsUnderWay g.S.Service.answers l.fn.db (g.R.Read.remaining (inner_of l.fn.reader)) (g.R.Read.remaining (inner_of l.reader)) (g.W.Write.contents (inner_of l.fn.writer)) (g.W.Write.contents (inner_of l.writer)) l.fn.service l.connection l.service l.reads;
  reading : has_failed l.reader ≡ false;
  writing : has_failed l.writer ≡ false;
}
