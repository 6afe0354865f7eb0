use Rattle.std.proofs.Common.{refl}
use Rattle.mg_scan.specs.Way.{begin_at}
use Rattle.mg_scan.specs.Walked.{id_row}
use Rattle.mg_scan.proofs.unread.documents_of.Goals as goal

pub returns : goal.returns
returns c = record { own = c.ids_are_own.ensures; begun = c.documents_beyond.ensures (λ e. begin_at c.args.search (id_row e.0)) (λ d. refl) }
