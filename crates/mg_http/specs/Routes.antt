-- The routes: what each path asks for, by its method. A path matches a route segment by segment. But a literal goes before a parameter: the
-- path does not match the route if another route, with the same parts up to a parameter of this one, has the path's segment there as a
-- literal. This holds even if the path does not match the other route.
use Rattle.std.specs.Prelude.{ℕ, Bool, true, false, not, ◌&&◌, ◌==◌, List, [], ◌∷◌, length, bytes_eq, codes, if◌then◌else◌}
use Rattle.std.specs.List.{list_any, slice_split}
use Rattle.percent_encoding.specs.Percent.{percent_decode}
use Rattle.mg_http.specs.declared.request.routes.Endpoint.TheVariants.{BulkDocs, Find, Explain, CreateIndex, Reshard}
use Rattle.mg_http.specs.declared.request.routes.Action.{Action}
use Rattle.mg_http.specs.declared.request.routes.Action.TheVariants.{Body, Document, ListIndexes, DropIndex, DropDesignIndex}

-- a part of a path: a literal segment, or a parameter, which is any segment that is not empty
pub data RouteSegment : Type 0 where
  literal : List ℕ → RouteSegment
  parameter : RouteSegment

-- a route: its method, its path after the database's name, and what it asks for
pub record Route : Type 0 where
  pub method : List ℕ
  pub path : List RouteSegment
  pub action : Action

-- the table of the routes
abbrev pub routes : List Route
routes =
    record { method = codes "POST"; path = literal (codes "_bulk_docs") ∷ []; action = Body BulkDocs }
    ∷ record { method = codes "POST"; path = literal (codes "_explain") ∷ []; action = Body Explain }
    ∷ record { method = codes "POST"; path = literal (codes "_find") ∷ []; action = Body Find }
    ∷ record { method = codes "POST"; path = literal (codes "_index") ∷ []; action = Body CreateIndex }
    ∷ record { method = codes "GET"; path = literal (codes "_index") ∷ []; action = ListIndexes }
    ∷ record {
      method = codes "DELETE";
      path = literal (codes "_index") ∷ parameter ∷ literal (codes "json") ∷ parameter ∷ [];
      action = DropIndex;
    }
    ∷ record {
      method = codes "DELETE";
      path = literal (codes "_index") ∷ literal (codes "_design") ∷ parameter ∷ literal (codes "json") ∷ parameter ∷ [];
      action = DropDesignIndex;
    }
    ∷ record { method = codes "POST"; path = literal (codes "_placement") ∷ []; action = Body Reshard }
    ∷ record { method = codes "GET"; path = parameter ∷ []; action = Document }
    ∷ []

-- the segments of a path; a path that does not begin with a slash has none
abbrev pub segments_of : List ℕ → List (List ℕ)
segments_of [] = []
segments_of (b ∷ rest) = if b == 47 then slice_split (λ c. c == 47) rest else []

-- two parts are equal
abbrev pub same_part : RouteSegment → RouteSegment → Bool
same_part (literal a) (literal b) = bytes_eq a b
same_part (literal a) parameter = false
same_part parameter (literal b) = false
same_part parameter parameter = true

-- a literal matches the segment that equals it, a parameter any segment that is not empty
abbrev pub matches_segment : RouteSegment → List ℕ → Bool
matches_segment (literal text) segment = bytes_eq text segment
matches_segment parameter segment = not (length segment == 0)

-- the path of a route has as many parts as there are segments, and each part matches its segment
abbrev pub matches_path : List (List ℕ) → List RouteSegment → Bool
matches_path [] [] = true
matches_path [] (p ∷ path) = false
matches_path (s ∷ segments) [] = false
matches_path (s ∷ segments) (p ∷ path) = matches_segment p s && matches_path segments path

-- at the first part in which the two paths differ, the other one has the segment as a literal
abbrev pub passes_over : List (List ℕ) → List RouteSegment → List RouteSegment → Bool
passes_over [] path other = false
passes_over (s ∷ segments) [] other = false
passes_over (s ∷ segments) (p ∷ path) [] = false
passes_over (s ∷ segments) (p ∷ path) (q ∷ other) =
    if same_part q p then passes_over segments path other else same_part q (literal s)

-- a route's path from its start: the name of the database is its first parameter
abbrev pub whole_path : Route → List RouteSegment
whole_path r = parameter ∷ r.path

-- the segments match the route: its path matches all of them, and passes over no literal of another route
abbrev pub matches_route : List (List ℕ) → Route → Bool
matches_route segments r =
    matches_path segments (whole_path r) && not (list_any (λ other. passes_over segments (whole_path r) (whole_path other)) routes)

-- the segments match the route, and it has the method
abbrev pub is_matched_by : List ℕ → List (List ℕ) → Route → Bool
is_matched_by method segments r = matches_route segments r && bytes_eq r.method method

-- the percent-decoded segments at the parameters of a route's path
abbrev pub parameters_of : List (List ℕ) → List RouteSegment → List (List ℕ)
parameters_of [] path = []
parameters_of (s ∷ segments) [] = []
parameters_of (s ∷ segments) (literal text ∷ path) = parameters_of segments path
parameters_of (s ∷ segments) (parameter ∷ path) = percent_decode s ∷ parameters_of segments path
