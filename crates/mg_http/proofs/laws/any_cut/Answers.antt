use Rattle.mg_http.proofs.CutLemmas.{begins}
use Rattle.mg_http.proofs.laws.any_cut.Goals as goal

pub returns : goal.returns
returns c = λ db w bytes more text longer h k. begins db w bytes more h.0 text k.0 longer h.1 k.1
