use Rattle.std.proofs.Common.{refl}
use Rattle.mg_scan.specs.Way.{begin_at}
use Rattle.mg_scan.specs.Walked.{id_row}
use Rattle.mg_scan.proofs.counting.count_upcoming.Goals as goal

pub returns-in-AllDocs : goal.returns-in-AllDocs
returns-in-AllDocs c = rw c.in-AllDocs.is (c.count_documents_beyond.ensures (λ e. begin_at c.args.search (id_row e.0)) (λ d. refl))
