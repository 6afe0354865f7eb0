-- The segments of a path, as the code iterates over them.
use Rattle.std.specs.Prelude.{◌==◌, List, [], ℕ, Option, Some, None}
use Rattle.std.specs.List.{slice_split}
use Rattle.std.specs.Borrow.{Bor}
use Rattle.mg_http.specs.declared.request.route_match.Segments.{Segments}

-- the segments of the rest of a path; `None`: nothing is left
abbrev pub segments_of_rest : Option (Bor (List ℕ)) → List (List ℕ)
segments_of_rest None = []
segments_of_rest (Some rest) = slice_split (λ c. c == 47) rest.now

-- the segments that the iterator has not given yet
abbrev pub segments_left : Segments → List (List ℕ)
segments_left it = segments_of_rest it.rest
