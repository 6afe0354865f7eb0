use Rattle.mg_collate.proofs.Sorting.{all_weaker}
use Rattle.mg_query.specs.Laws.{CanBeReadBack, PlaceCanBeSpelled, from_first, place_at}
use Rattle.mg_query.specs.Page.{candidates_found, candidates_of, source_columns}
use Rattle.mg_query.proofs.Chained.{pages_that_read_back_join}
use Rattle.mg_query.proofs.laws.pages_join.Goals as goal

pub returns : goal.returns
returns c = λ ds s q hs served skipped limit places.
    let found = candidates_found (source_columns s) (from_first q) (candidates_of hs) in
    let back = all_weaker (PlaceCanBeSpelled s q) (CanBeReadBack s q) (λ d h. c.what_is_spelled_is_read.ensures (place_at s q d) h) found places in
    pages_that_read_back_join ds s q hs served skipped limit back
