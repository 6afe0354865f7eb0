use Rattle.std.proofs.Common.{sym}
use Rattle.mg_face.proofs.JsonLemmas.{reads_json}
use Rattle.mg_face.proofs.read.read_packed.Goals as goal

pub returns-in-Ok : goal.returns-in-Ok
returns-in-Ok c = sym (reads_json c.args.bytes.now _ c.in-Ok.ensures.ok)
