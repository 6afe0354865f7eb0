use Rattle.std.specs.FinMap.{slice_cmp-IsAntisymmetric, nat_cmp-IsAntisymmetric}
use Rattle.std.proofs.lemmas.Cmp.{nat_list_cmp_total}
use Rattle.mg_pages.proofs.Finite.{finite_get, finite_inserted, finite_removed}
use Rattle.mg_pages.proofs.laws.ids_make_a_map.Goals as goal

pub returns-clause-get : goal.returns-clause-get
returns-clause-get g c = λ value xs id s. finite_get nat_list_cmp_total g.T.Identified.id value id xs s

pub returns-clause-insert : goal.returns-clause-insert
returns-clause-insert g c = λ value xs x s. finite_inserted nat_list_cmp_total g.T.Identified.id value (slice_cmp-IsAntisymmetric nat_cmp-IsAntisymmetric) x xs s

pub returns-clause-remove : goal.returns-clause-remove
returns-clause-remove g c = λ value xs id s. finite_removed nat_list_cmp_total g.T.Identified.id value (slice_cmp-IsAntisymmetric nat_cmp-IsAntisymmetric) id xs s
