use Rattle.mg_packed.proofs.Words.{half_at}
use Rattle.mg_packed.proofs.read.half.Goals as goal

pub returns-clause-value : goal.returns-clause-value
returns-clause-value c = half_at c.args.bytes.now c.args.at _ c.from_le_bytes.ensures
