-- The code's match finds the routes that the segments mean.
use Rattle.std.proofs.lemmas.Bool.Decides.{nat_tests}
use Rattle.std.proofs.Common.{◌≡◌, arith, ℕ, ◌==◌, Bool, true, false, not, ◌&&◌, ◌||◌, cond, List, [], ◌∷◌, ◌++◌, length, Option, Some, None, refl, sym, ap, ◌∙◌}
use Rattle.std.specs.Prelude.{bytes_eq, find, fold}
use Rattle.std.specs.List.{list_any, list_all, filter_map, cons_option}
use Rattle.std.specs.Option.{option_map}
use Rattle.std.specs.Str.{is_utf8}
use Rattle.std.proofs.Math.Bool.{and-true}
use Rattle.std.proofs.lemmas.List.{append_assoc, append-nil}
use Rattle.std.proofs.lemmas.Slice.Eq.{bytes_eq-Decides}
use Rattle.percent_encoding.specs.Percent.{percent_decode}
use Rattle.mg_http.specs.declared.request.routes.Action.{Action}
use Rattle.mg_http.specs.Routes.{RouteSegment, literal, parameter, Route, routes, same_part, matches_segment, matches_path, passes_over, whole_path, matches_route, parameters_of}
use Rattle.mg_engine.specs.declared.refusal.Refusal.TheVariants.{Missing, NoDatabase}
use Rattle.mg_http.specs.Target.{Request, refuses, names, requested_by, request_with, request_on}
use Rattle.mg_http.specs.Walk.{RouteMatch, path_after, routes_after, begins_with, any_begins_with, enter, enter_as, match_of, ends_here, ends_with_method, request_at}
use Rattle.mg_http.proofs.ListLemmas.{or_true, and_false}

-- a route that was found: its method, what it asks for, and its decoded parameters
abbrev pub Found : Type 0
Found = (List ℕ × Action) × List (List ℕ)

-- the route is found if b is true
abbrev pub found : List ℕ → Action → List (List ℕ) → Bool → Option Found
found method action spelled b = cond b (Some ((method, action), spelled)) None

-- all routes that pass the test
abbrev pub all_found : (Route → Bool) → (Route → List (List ℕ)) → List Route → List Found
all_found p f rs = filter_map (λ r. found r.method r.action (f r) (p r)) rs

-- where the path first differs from some of these routes, that route has the segment as a literal
abbrev pub passed : List Route → List (List ℕ) → List RouteSegment → Bool
passed rs segments path = list_any (λ r. passes_over segments path r.path) rs

-- the path matches all segments, and none of these routes has a literal where the path has a parameter
abbrev pub matched_in : List Route → List (List ℕ) → List RouteSegment → Bool
matched_in rs segments path = matches_path segments path && not (passed rs segments path)

or_parts : (a b : Bool) → (a || b) ≡ false → (a ≡ false) × (b ≡ false)
or_parts true b e = cc
or_parts false b e = (refl, e)

-- without segments, no literal is passed over
passed_end : (rs : List Route) (path : List RouteSegment) → passed rs [] path ≡ false
passed_end [] path = refl
passed_end (r ∷ rs) path = passed_end rs path

matches_path-end : (path : List RouteSegment) → matches_path [] path ≡ (length path == 0)
matches_path-end [] = refl
matches_path-end (p ∷ path) =
    let apart : (length (p ∷ path) == 0) ≡ false = grind (arith, nat_tests) in
    sym apart

-- a literal that matches its segment: only the routes that have the same literal count
passed_literal : (rs : List Route) (s : List ℕ) (segments : List (List ℕ)) (path : List RouteSegment)
    → passed rs (s ∷ segments) (literal s ∷ path) ≡ passed (routes_after (literal s) rs) segments path
passed_literal [] s segments path = refl
passed_literal (r ∷ rs) s segments path =
    elim r.path as (λ ps. (passes_over (s ∷ segments) (literal s ∷ path) ps || passed rs (s ∷ segments) (literal s ∷ path))
    ≡ passed (cons_option (option_map (λ rest. record r { path = rest }) (path_after (literal s) ps)) (routes_after (literal s) rs)) segments path) [
      | [] ↦ passed_literal rs s segments path
      | q ∷ qs ↦ elim (same_part q (literal s)) as (λ b. (cond b (passes_over segments path qs) b || passed rs (s ∷ segments) (literal s ∷ path))
          ≡ passed (cons_option (option_map (λ rest. record r { path = rest }) (cond b (Some qs) None)) (routes_after (literal s) rs)) segments path) [
            | true ↦ ap (λ b. passes_over segments path qs || b) (passed_literal rs s segments path)
            | false ↦ passed_literal rs s segments path
          ]
    ]

-- a parameter, if no route has the segment as a literal: only the routes that have a parameter count
passed_parameter : (rs : List Route) (s : List ℕ) (segments : List (List ℕ)) (path : List RouteSegment) → any_begins_with (literal s) rs ≡ false
    → passed rs (s ∷ segments) (parameter ∷ path) ≡ passed (routes_after parameter rs) segments path
passed_parameter [] s segments path none = refl
passed_parameter (r ∷ rs) s segments path none =
    let parts = or_parts _ _ none in
    elim r.path as (λ ps. begins_with (literal s) ps ≡ false → (passes_over (s ∷ segments) (parameter ∷ path) ps || passed rs (s ∷ segments) (parameter ∷ path))
    ≡ passed (cons_option (option_map (λ rest. record r { path = rest }) (path_after parameter ps)) (routes_after parameter rs)) segments path) [
      | [] ↦ λ e. passed_parameter rs s segments path parts.1
      | parameter ∷ qs ↦ λ e. ap (λ b. passes_over segments path qs || b) (passed_parameter rs s segments path parts.1)
      | literal t ∷ qs ↦ λ e. ap (λ b. b || passed rs (s ∷ segments) (parameter ∷ path)) e ∙ passed_parameter rs s segments path parts.1
    ] parts.0

-- a parameter passes over the segment if some route has it as a literal
passed_over : (rs : List Route) (s : List ℕ) (segments : List (List ℕ)) (path : List RouteSegment) → any_begins_with (literal s) rs ≡ true
    → passed rs (s ∷ segments) (parameter ∷ path) ≡ true
passed_over [] s segments path some = some
passed_over (r ∷ rs) s segments path some =
    elim r.path as (λ ps. (begins_with (literal s) ps || any_begins_with (literal s) rs) ≡ true
    → (passes_over (s ∷ segments) (parameter ∷ path) ps || passed rs (s ∷ segments) (parameter ∷ path)) ≡ true) [
      | [] ↦ λ e. passed_over rs s segments path e
      | parameter ∷ qs ↦ λ e. ap (λ b. passes_over segments path qs || b) (passed_over rs s segments path e) ∙ or_true _
      | literal t ∷ qs ↦ elim (bytes_eq t s) as (λ b. (b || any_begins_with (literal s) rs) ≡ true → (b || passed rs (s ∷ segments) (parameter ∷ path)) ≡ true) [
        | true ↦ λ e. refl
        | false ↦ λ e. passed_over rs s segments path e
      ]
    ] some

-- one more segment as a literal, route by route
by_literal : (all rs : List Route) (s : List ℕ) (segments spelled : List (List ℕ)) → any_begins_with (literal s) all ≡ true
    → all_found (λ r. matched_in (routes_after (literal s) all) segments r.path) (λ r. spelled ++ parameters_of segments r.path) (routes_after (literal s) rs)
    ≡ all_found (λ r. matched_in all (s ∷ segments) r.path) (λ r. spelled ++ parameters_of (s ∷ segments) r.path) rs
by_literal all [] s segments spelled some = refl
by_literal all (r ∷ rs) s segments spelled some =
    let rest = by_literal all rs s segments spelled some in
    let later = all_found (λ o. matched_in all (s ∷ segments) o.path) (λ o. spelled ++ parameters_of (s ∷ segments) o.path) rs in
    let test : Route → Bool = λ o. matched_in (routes_after (literal s) all) segments o.path in
    let spells : Route → List (List ℕ) = λ o. spelled ++ parameters_of segments o.path in
    elim r.path as (λ ps. all_found test spells (cons_option (option_map (λ left. record r { path = left }) (path_after (literal s) ps)) (routes_after (literal s) rs))
    ≡ cons_option (found r.method r.action (spelled ++ parameters_of (s ∷ segments) ps) (matched_in all (s ∷ segments) ps)) later) [
      | [] ↦ rest
      | parameter ∷ qs ↦ rest ∙ sym (ap (λ (b : Bool). cons_option (found r.method r.action (spelled ++ percent_decode s ∷ parameters_of segments qs) b) later)
          (ap (λ (b : Bool). (matches_segment parameter s && matches_path segments qs) && not b) (passed_over all s segments qs some) ∙ and_false _))
      | literal t ∷ qs ↦ elim (bytes_eq t s) as (λ b. bytes_eq t s ≡ b →
          all_found test spells (cons_option (option_map (λ left. record r { path = left }) (cond b (Some qs) None)) (routes_after (literal s) rs))
          ≡ cons_option (found r.method r.action (spelled ++ parameters_of segments qs) ((b && matches_path segments qs) && not (passed all (s ∷ segments) (literal t ∷ qs)))) later) [
            | true ↦ λ e.
                ap (cons_option (found r.method r.action (spelled ++ parameters_of segments qs) (matched_in (routes_after (literal s) all) segments qs))) rest
                ∙ ap (λ (b : Bool). cons_option (found r.method r.action (spelled ++ parameters_of segments qs) (matches_path segments qs && not b)) later)
                (sym (ap (λ u. passed all (s ∷ segments) (literal u ∷ qs)) ((bytes_eq-Decides t s).0 e) ∙ passed_literal all s segments qs))
            | false ↦ λ e. rest
          ] refl
    ]

-- one more segment as a parameter, if no route has it as a literal
by_parameter : (all rs : List Route) (s : List ℕ) (segments spelled : List (List ℕ)) → any_begins_with (literal s) all ≡ false → any_begins_with (literal s) rs ≡ false
    → (length s == 0) ≡ false
    → all_found (λ r. matched_in (routes_after parameter all) segments r.path) (λ r. (spelled ++ percent_decode s ∷ []) ++ parameters_of segments r.path) (routes_after parameter rs)
    ≡ all_found (λ r. matched_in all (s ∷ segments) r.path) (λ r. spelled ++ parameters_of (s ∷ segments) r.path) rs
by_parameter all [] s segments spelled none absent some = refl
by_parameter all (r ∷ rs) s segments spelled none absent some =
    let parts = or_parts _ _ absent in
    let rest = by_parameter all rs s segments spelled none parts.1 some in
    let later = all_found (λ o. matched_in all (s ∷ segments) o.path) (λ o. spelled ++ parameters_of (s ∷ segments) o.path) rs in
    let test : Route → Bool = λ o. matched_in (routes_after parameter all) segments o.path in
    let spells : Route → List (List ℕ) = λ o. (spelled ++ percent_decode s ∷ []) ++ parameters_of segments o.path in
    elim r.path as (λ ps. begins_with (literal s) ps ≡ false
    → all_found test spells (cons_option (option_map (λ left. record r { path = left }) (path_after parameter ps)) (routes_after parameter rs))
    ≡ cons_option (found r.method r.action (spelled ++ parameters_of (s ∷ segments) ps) (matched_in all (s ∷ segments) ps)) later) [
      | [] ↦ λ e. rest
      | parameter ∷ qs ↦ λ e.
          ap (cons_option (found r.method r.action ((spelled ++ percent_decode s ∷ []) ++ parameters_of segments qs) (matched_in (routes_after parameter all) segments qs))) rest
          ∙ ap (λ (ws : List (List ℕ)). cons_option (found r.method r.action ws (matched_in (routes_after parameter all) segments qs)) later)
          (append_assoc spelled (percent_decode s ∷ []) (parameters_of segments qs))
          ∙ sym (ap (λ (b : Bool). cons_option (found r.method r.action (spelled ++ percent_decode s ∷ parameters_of segments qs) b) later)
          (ap (λ (b : Bool). (not b && matches_path segments qs) && not (passed all (s ∷ segments) (parameter ∷ qs))) some
          ∙ ap (λ (b : Bool). matches_path segments qs && not b) (passed_parameter all s segments qs none)))
      | literal t ∷ qs ↦ λ e. rest ∙ sym (ap (λ (b : Bool). cons_option (found r.method r.action (spelled ++ parameters_of segments qs)
          ((b && matches_path segments qs) && not (passed all (s ∷ segments) (literal t ∷ qs)))) later) e)
    ] parts.0

-- no route matches an empty segment that none has as a literal
by_nothing : (all rs : List Route) (s : List ℕ) (segments spelled : List (List ℕ)) → any_begins_with (literal s) rs ≡ false → (length s == 0) ≡ true
    → [] ≡ all_found (λ r. matched_in all (s ∷ segments) r.path) (λ r. spelled ++ parameters_of (s ∷ segments) r.path) rs
by_nothing all [] s segments spelled absent empty = refl
by_nothing all (r ∷ rs) s segments spelled absent empty =
    let parts = or_parts _ _ absent in
    let rest = by_nothing all rs s segments spelled parts.1 empty in
    let later = all_found (λ o. matched_in all (s ∷ segments) o.path) (λ o. spelled ++ parameters_of (s ∷ segments) o.path) rs in
    elim r.path as (λ ps. begins_with (literal s) ps ≡ false
    → [] ≡ cons_option (found r.method r.action (spelled ++ parameters_of (s ∷ segments) ps) (matched_in all (s ∷ segments) ps)) later) [
      | [] ↦ λ e. rest
      | parameter ∷ qs ↦ λ e. rest ∙ sym (ap (λ (b : Bool). cons_option (found r.method r.action (spelled ++ percent_decode s ∷ parameters_of segments qs)
          ((not b && matches_path segments qs) && not (passed all (s ∷ segments) (parameter ∷ qs)))) later) empty)
      | literal t ∷ qs ↦ λ e. rest ∙ sym (ap (λ (b : Bool). cons_option (found r.method r.action (spelled ++ parameters_of segments qs)
          ((b && matches_path segments qs) && not (passed all (s ∷ segments) (literal t ∷ qs)))) later) e)
    ] parts.0

-- after all segments, the routes with nothing left are meant
by_end : (all rs : List Route) (spelled : List (List ℕ))
    → all_found ends_here (λ r. spelled) rs ≡ all_found (λ r. matched_in all [] r.path) (λ r. spelled ++ parameters_of [] r.path) rs
by_end all [] spelled = refl
by_end all (r ∷ rs) spelled =
    ap (cons_option (found r.method r.action spelled (ends_here r))) (by_end all rs spelled)
    ∙ ap (λ (ws : List (List ℕ)). cons_option (found r.method r.action ws (ends_here r)) (all_found (λ o. matched_in all [] o.path) (λ o. spelled ++ []) rs)) (sym (append-nil spelled))
    ∙ sym (ap (λ (b : Bool). cons_option (found r.method r.action (spelled ++ []) b) (all_found (λ o. matched_in all [] o.path) (λ o. spelled ++ []) rs))
    (ap (λ (b : Bool). b && not (passed all [] r.path)) (matches_path-end r.path)
    ∙ ap (λ (b : Bool). ends_here r && not b) (passed_end all r.path) ∙ and-true _))

-- the match from these routes finds those that are meant
walked : (segments : List (List ℕ)) (rs : List Route) (spelled : List (List ℕ))
    → (let end = fold enter (record { routes_left = rs; parameters = spelled }) segments in all_found ends_here (λ r. end.parameters) end.routes_left)
    ≡ all_found (λ r. matched_in rs segments r.path) (λ r. spelled ++ parameters_of segments r.path) rs
walked [] rs spelled = by_end rs rs spelled
walked (s ∷ segments) rs spelled =
    elim (any_begins_with (literal s) rs) as (λ b. any_begins_with (literal s) rs ≡ b
    → (let end = fold enter (enter_as b (record { routes_left = rs; parameters = spelled }) s) segments in all_found ends_here (λ r. end.parameters) end.routes_left)
    ≡ all_found (λ r. matched_in rs (s ∷ segments) r.path) (λ r. spelled ++ parameters_of (s ∷ segments) r.path) rs) [
      | true ↦ λ e. walked segments (routes_after (literal s) rs) spelled ∙ by_literal rs rs s segments spelled e
      | false ↦ λ e. elim (length s == 0) as (λ b. (length s == 0) ≡ b
          → (let end = fold enter (record { routes_left = cond b [] (routes_after parameter rs); parameters = spelled ++ percent_decode s ∷ [] }) segments in
          all_found ends_here (λ r. end.parameters) end.routes_left)
          ≡ all_found (λ r. matched_in rs (s ∷ segments) r.path) (λ r. spelled ++ parameters_of (s ∷ segments) r.path) rs) [
            | true ↦ λ empty. walked segments [] (spelled ++ percent_decode s ∷ []) ∙ by_nothing rs rs s segments spelled e empty
            | false ↦ λ some. walked segments (routes_after parameter rs) (spelled ++ percent_decode s ∷ []) ∙ by_parameter rs rs s segments spelled e e some
          ] refl
    ] refl

-- the action of the first route that passes the test and has the method
asks_found : (method : List ℕ) (p : Route → Bool) (f : Route → List (List ℕ)) (rs : List Route)
    → option_map (λ r. r.action) (find (λ r. p r && bytes_eq r.method method) rs)
    ≡ option_map (λ x. x.0.1) (find (λ x. bytes_eq x.0.0 method) (all_found p f rs))
asks_found method p f [] = refl
asks_found method p f (r ∷ rs) =
    elim (p r) as (λ b. option_map (λ o. o.action) (cond (b && bytes_eq r.method method) (Some r) (find (λ o. p o && bytes_eq o.method method) rs))
    ≡ option_map (λ x. x.0.1) (find (λ x. bytes_eq x.0.0 method) (cons_option (found r.method r.action (f r) b) (all_found p f rs)))) [
      | true ↦ elim (bytes_eq r.method method) as (λ b. option_map (λ o. o.action) (cond b (Some r) (find (λ o. p o && bytes_eq o.method method) rs))
          ≡ option_map (λ x. x.0.1) (cond b (Some ((r.method, r.action), f r)) (find (λ x. bytes_eq x.0.0 method) (all_found p f rs)))) [
            | true ↦ refl
            | false ↦ asks_found method p f rs
          ]
      | false ↦ asks_found method p f rs
    ]

abbrev spelled_first : List Found → Option (List (List ℕ))
spelled_first [] = None
spelled_first (x ∷ xs) = Some x.1

-- the decoded parameters of the first route that passes the test
spells_found : (p : Route → Bool) (f : Route → List (List ℕ)) (rs : List Route) → option_map f (find p rs) ≡ spelled_first (all_found p f rs)
spells_found p f [] = refl
spells_found p f (r ∷ rs) =
    elim (p r) as (λ b. option_map f (cond b (Some r) (find p rs)) ≡ spelled_first (cons_option (found r.method r.action (f r) b) (all_found p f rs))) [
      | true ↦ refl
      | false ↦ spells_found p f rs
    ]

-- if nothing of some route is left, its parameters are those of the state
spells_here : (p : Route → Bool) (spelled : List (List ℕ)) (rs : List Route) → option_map (λ r. spelled) (find p rs) ≡ cond (list_any p rs) (Some spelled) None
spells_here p spelled [] = refl
spells_here p spelled (r ∷ rs) =
    elim (p r) as (λ b. option_map (λ o. spelled) (cond b (Some r) (find p rs)) ≡ cond (b || list_any p rs) (Some spelled) None) [
      | true ↦ refl
      | false ↦ spells_here p spelled rs
    ]

-- what is asked in a state of the match, from the routes of which nothing is left
at_match : (db method query : List ℕ) (matched : RouteMatch)
    → request_at db method query matched
    ≡ request_with db (cond (list_any ends_here matched.routes_left) (Some matched.parameters) None)
    (option_map (λ r. r.action) (find (ends_with_method method) matched.routes_left)) query
at_match db method query matched =
    elim (list_any ends_here matched.routes_left) as (λ b.
    cond (not (b && list_all is_utf8 matched.parameters)) (refuses Missing)
    (cond (names db matched.parameters) (requested_by (option_map (λ r. r.action) (find (ends_with_method method) matched.routes_left)) matched.parameters query) (refuses NoDatabase))
    ≡ request_with db (cond b (Some matched.parameters) None) (option_map (λ r. r.action) (find (ends_with_method method) matched.routes_left)) query) [
      | true ↦ refl
      | false ↦ refl
    ]

-- what is asked, from the routes that are found
abbrev asked_by : List ℕ → List ℕ → List ℕ → List Found → Request
asked_by db method query xs = request_with db (spelled_first xs) (option_map (λ x. x.0.1) (find (λ x. bytes_eq x.0.0 method) xs)) query

by_found : (db method query : List ℕ) (p : Route → Bool) (f : Route → List (List ℕ)) (rs : List Route)
    → request_with db (option_map f (find p rs)) (option_map (λ r. r.action) (find (λ r. p r && bytes_eq r.method method) rs)) query
    ≡ asked_by db method query (all_found p f rs)
by_found db method query p f rs =
    ap (λ spelled. request_with db spelled (option_map (λ r. r.action) (find (λ r. p r && bytes_eq r.method method) rs)) query) (spells_found p f rs)
    ∙ ap (λ action. request_with db (spelled_first (all_found p f rs)) action query) (asks_found method p f rs)

-- the routes of the table that a path matches, if the database's name is not empty
below_name : (name : List ℕ) (below : List (List ℕ)) (rs : List Route) → (length name == 0) ≡ false
    → all_found (λ r. matched_in routes below r.path) (λ r. (percent_decode name ∷ []) ++ parameters_of below r.path) rs
    ≡ all_found (matches_route (name ∷ below)) (λ r. parameters_of (name ∷ below) (whole_path r)) rs
below_name name below rs some =
    sym (ap (λ (b : Bool). all_found (λ r. (not b && matches_path below r.path) && not (passed routes below r.path)) (λ r. percent_decode name ∷ parameters_of below r.path) rs) some)

no_name : (name : List ℕ) (below : List (List ℕ)) (rs : List Route) → (length name == 0) ≡ true
    → [] ≡ all_found (matches_route (name ∷ below)) (λ r. parameters_of (name ∷ below) (whole_path r)) rs
no_name name below [] empty = refl
no_name name below (r ∷ rs) empty =
    no_name name below rs empty
    ∙ sym (ap (λ (b : Bool). cons_option (found r.method r.action (percent_decode name ∷ parameters_of below r.path)
    ((not b && matches_path below r.path) && not (passed routes below r.path))) (all_found (matches_route (name ∷ below)) (λ o. parameters_of (name ∷ below) (whole_path o)) rs)) empty)

-- the match of all segments finds the routes that they mean
all_walked : (segments : List (List ℕ))
    → (let end = match_of segments in all_found ends_here (λ r. end.parameters) end.routes_left)
    ≡ all_found (matches_route segments) (λ r. parameters_of segments (whole_path r)) routes
all_walked [] = refl
all_walked (name ∷ below) =
    elim (length name == 0) as (λ b. (length name == 0) ≡ b
    → (let end = fold enter (record { routes_left = cond b [] routes; parameters = percent_decode name ∷ [] }) below in
    all_found ends_here (λ r. end.parameters) end.routes_left)
    ≡ all_found (matches_route (name ∷ below)) (λ r. parameters_of (name ∷ below) (whole_path r)) routes) [
      | true ↦ λ e. walked below [] (percent_decode name ∷ []) ∙ no_name name below routes e
      | false ↦ λ e. walked below routes (percent_decode name ∷ []) ∙ below_name name below routes e
    ] refl

-- what the code asks after its match is what the segments ask
pub walk_asks : (db method query : List ℕ) (segments : List (List ℕ))
    → request_at db method query (match_of segments) ≡ request_on db method query segments
walk_asks db method query segments =
    let end = match_of segments in
    at_match db method query end
    ∙ ap (λ spelled. request_with db spelled (option_map (λ r. r.action) (find (ends_with_method method) end.routes_left)) query)
    (sym (spells_here ends_here end.parameters end.routes_left))
    ∙ by_found db method query ends_here (λ r. end.parameters) end.routes_left
    ∙ ap (asked_by db method query) (all_walked segments)
    ∙ sym (by_found db method query (matches_route segments) (λ r. parameters_of segments (whole_path r)) routes)
