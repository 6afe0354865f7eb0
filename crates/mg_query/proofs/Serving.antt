-- The index that serves a query, once one is chosen.
use Rattle.std.proofs.Common.{◌≡◌, Bool, true, false, cond, List, Option, Some, None, Result, Ok, Err, ap, ◌∙◌}
use Rattle.std.specs.Option.{option_map_or}
use Rattle.mg_normal.specs.Atoms.{atoms_of}
use Rattle.mg_index.specs.Choice.{Source, choice_of}
use Rattle.mg_index.specs.Definition.{IndexDefinition}
use Rattle.mg_query.specs.Page.{Unanswered, bad_bookmark, no_usable_index, accepts_bookmark, served_by}
use Rattle.mg_query.specs.Query.{Query}
use Rattle.mg_query.specs.Served.{error_of}
use Rattle.mg_query.specs.declared.error.PageError.{PageError}

pub serves : (ds : List IndexDefinition) (q : Query) (s : Source) (b : Bool) → choice_of ds (atoms_of q.selector) q.sort q.hint ≡ Some s → accepts_bookmark s q ≡ b → served_by ds q ≡ cond b (Ok s) (Err bad_bookmark)
serves ds q s b e f = ap (λ (o : Option Source). option_map_or (λ t. cond (accepts_bookmark t q) (Ok t) (Err bad_bookmark)) o (Err no_usable_index)) e ∙ ap (λ t. cond t (Ok s) (Err bad_bookmark)) f

same_served : (s t : Source) (b : Bool) → ◌≡◌ {A = Result Source Unanswered} (cond b (Ok t) (Err bad_bookmark)) (Ok s) → t ≡ s
same_served s t true e = cc
same_served s t false e = absurd cc

choice_from : (q : Query) (s : Source) (o : Option Source) → ◌≡◌ {A = Result Source Unanswered} (option_map_or (λ t. cond (accepts_bookmark t q) (Ok t) (Err bad_bookmark)) o (Err no_usable_index)) (Ok s) → o ≡ Some s
choice_from q s None e = absurd cc
choice_from q s (Some t) e = ap Some (same_served s t (accepts_bookmark t q) e)

-- the index that serves the query is the one that is chosen
pub choice_served : (ds : List IndexDefinition) (q : Query) (s : Source) → served_by ds q ≡ Ok s → choice_of ds (atoms_of q.selector) q.sort q.hint ≡ Some s
choice_served ds q s e = choice_from q s (choice_of ds (atoms_of q.selector) q.sort q.hint) e

-- no index serves the query if none is chosen
pub none_served : (ds : List IndexDefinition) (q : Query) → choice_of ds (atoms_of q.selector) q.sort q.hint ≡ None → served_by ds q ≡ Err no_usable_index
none_served ds q e = ap (λ (o : Option Source). option_map_or (λ t. cond (accepts_bookmark t q) (Ok t) (Err bad_bookmark)) o (Err no_usable_index)) e

-- ---- refusals

-- a query that is answered is not refused
pub not_refused : {X : Type 0} (r : Result X Unanswered) (x : X) (why : Unanswered) → r ≡ Ok x → r ≡ Err why → ⊥
not_refused r x why e h = cc

-- a query is refused for one reason
pub refused_for : {X Y : Type 0} (r : Result X Unanswered) (why other : Unanswered) → r ≡ Err why → r ≡ Err other → ◌≡◌ {A = Result Y PageError} (Err (error_of why)) (Err (error_of other))
refused_for r why other e h = let same : why ≡ other = cc in ap (λ w. Err (error_of w)) same
