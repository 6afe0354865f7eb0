-- Writes that are made ready side by side, and executed in their order.
use denote.Ref.{Bor}
use Rattle.std.proofs.Common.{◌≡◌, ℕ, ◌==◌, true, List, [], ◌∷◌, ◌++◌, length, take, drop, Result, Ok, Err, map, sym, ap, ◌∙◌, subst, arith, IfOk}
use Rattle.std.proofs.lemmas.List.{append_assoc, map-append, nil_from_length, take-append-drop}
use Rattle.std.proofs.lemmas.Bool.Decides.{nat_tests}
use Rattle.std.specs.Prelude.{MatchResult, Contains}
use Rattle.std.specs.List.{AllZip}
use Rattle.std.specs.declared.alloc.Global.{Global}
use Rattle.std.specs.declared.vec.Vec.{Vec}
use Rattle.rayon.proofs.ToStd.{slice-AllZip}
use Rattle.mg_engine.specs.Commands.{Asked}
use Rattle.mg_engine.specs.View.{command_view}
use Rattle.mg_log.specs.Entry.{Entry, entries_of, entry_of}
use Rattle.mg_log.specs.declared.commit.Commit.{Commit}
use Rattle.mg_log.specs.declared.replay.Stopped.{Stopped}
use Rattle.mango_server.specs.Kept.{AreRowsOf, IsRowOf}
use Rattle.mango_server.specs.Ready.{writes_of}
use Rattle.mango_server.specs.declared.ready.Ready.{Ready}

abbrev pub Given : Type 0
Given = Result Ready Stopped

-- if each row gave a write, the rows are those of the writes, in their order
each_ready : (rows : List Commit) (rs : List Given) (writes : List Ready)
    → AllZip (λ (row : Commit) (r : Given). IfOk r (λ w. IsRowOf (entry_of row) (command_view w.command.value))) rows rs
    → rs ≡ map Ok writes → AreRowsOf (entries_of rows) (writes_of writes)
each_ready [] [] [] h e = tt
each_ready [] [] (w ∷ writes) h e = absurd cc
each_ready [] (r ∷ rs) writes h e = absurd h
each_ready (row ∷ rows) [] writes h e = absurd h
each_ready (row ∷ rows) (Ok v ∷ rs) [] h e = absurd cc
each_ready (row ∷ rows) (Ok v ∷ rs) (w ∷ writes) h e =
    let same : v ≡ w = cc in
    let more : rs ≡ map Ok writes = cc in
    (subst (λ (u : Ready). IsRowOf (entry_of row) (command_view u.command.value)) same h.0, each_ready rows rs writes h.1 more)
each_ready (row ∷ rows) (Err x ∷ rs) [] h e = absurd cc
each_ready (row ∷ rows) (Err x ∷ rs) (w ∷ writes) h e = absurd cc

-- the result of all threads is the writes of all rows, or a refusal
pub ready_together : (rows : List Commit) (xs : List (Bor Commit)) (rs : List Given) (together : Result (Vec Ready Global) Stopped)
    → map (λ (x : Bor Commit). x.now) xs ≡ rows
    → AllZip (λ (x : Bor Commit) (r : Given). IfOk r (λ w. IsRowOf (entry_of x.now) (command_view w.command.value))) xs rs
    → MatchResult together (λ v. (writes : List Ready) × (rs ≡ map Ok writes) × (v.items ≡ writes)) (λ e. Contains rs (Err e))
    → IfOk together (λ v. AreRowsOf (entries_of rows) (writes_of v.items))
ready_together rows xs rs (Err e) kept each all = tt
ready_together rows xs rs (Ok v) kept each all =
    subst (λ (ws : List Ready). AreRowsOf (entries_of rows) (writes_of ws)) (sym all.2)
    (each_ready rows rs all.0 (slice-AllZip xs rows kept (λ (row : Commit) (r : Given). IfOk r (λ w. IsRowOf (entry_of row) (command_view w.command.value))) rs each) all.1)

-- a seat that has seen these writes, after what it had seen, has executed one more
pub one_more : (before seen now : List Asked) (ws : List Ready) (w : Ready) → seen ≡ before ++ writes_of ws
    → now ≡ seen ++ command_view w.command.value ∷ [] → now ≡ before ++ writes_of (ws ++ w ∷ [])
one_more before seen now ws w is more =
    more
    ∙ ap (λ (cs : List Asked). cs ++ command_view w.command.value ∷ []) is
    ∙ append_assoc before (writes_of ws) (command_view w.command.value ∷ [])
    ∙ ap (λ (cs : List Asked). before ++ cs) (sym (map-append (λ (r : Ready). command_view r.command.value) ws (w ∷ [])))

-- rows of writes, and further ones
more_rows : (es fs : List Entry) (cs ds : List Asked) → AreRowsOf es cs → AreRowsOf fs ds → AreRowsOf (es ++ fs) (cs ++ ds)
more_rows [] fs [] ds are more = more
more_rows [] fs (c ∷ cs) ds are more = absurd are
more_rows (e ∷ es) fs [] ds are more = absurd are
more_rows (e ∷ es) fs (c ∷ cs) ds are more = (are.0, more_rows es fs cs ds are.1 more)

-- the rows of one more group
pub one_more_group : (done group : List Commit) (seen now : List Asked) (ws : List Ready) → AreRowsOf (entries_of done) seen
    → AreRowsOf (entries_of group) (writes_of ws) → now ≡ seen ++ writes_of ws → AreRowsOf (entries_of (done ++ group)) now
one_more_group done group seen now ws are more is =
    subst (λ (cs : List Asked). AreRowsOf (entries_of (done ++ group)) cs) (sym is)
    (subst (λ (es : List Entry). AreRowsOf es (seen ++ writes_of ws)) (sym (map-append entry_of done group)) (more_rows (entries_of done) (entries_of group) seen (writes_of ws) are more))

-- no row is left
pub nothing_left : (rows : List Commit) → true ≡ (length rows == 0) → rows ≡ []
nothing_left rows is = let none : length rows ≡ 0 = grind (arith, nat_tests) in nil_from_length rows none

-- a group of rows, and the rows after it
pub parted : (n : ℕ) (rows group more : List Commit) → group ≡ take n rows → more ≡ drop n rows → rows ≡ group ++ more
parted n rows group more front back =
    sym (take-append-drop n rows) ∙ ap (λ (xs : List Commit). xs ++ drop n rows) (sym front) ∙ ap (λ (xs : List Commit). group ++ xs) (sym back)

-- a seat that has executed the writes that were left has seen those of all rows
pub all_rows : (A : Type 0) (seen : A → List Asked) (given : Result A Stopped) (es : List Entry) (now : List Asked)
    → IfOk given (λ s. seen s ≡ now) → AreRowsOf es now → IfOk given (λ s. AreRowsOf es (seen s))
all_rows A seen (Err e) es now is are = tt
all_rows A seen (Ok s) es now is are = subst (λ (cs : List Asked). AreRowsOf es cs) (sym is) are
