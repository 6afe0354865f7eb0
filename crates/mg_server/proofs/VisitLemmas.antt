-- Visits, one after another.
use Rattle.std.proofs.Common.{List, [], ◌∷◌, ◌++◌, refl, subst}
use Rattle.mg_server.specs.Visits.{HasVisited, Visits}

-- some visits, and then others
append : {S C : Type 0} (follows : S → S → Type 0) (told : S → C → S → Type 0) (a b c : S) (xs ys : List (C × C))
    → Visits follows told a xs b → Visits follows told b ys c → Visits follows told a (xs ++ ys) c
append {S} follows told a b c [] ys first then = subst (λ (s : S). Visits follows told s ys c) first then
append follows told a b c (x ∷ xs) ys first then = (first.0, first.1, append follows told first.0 b c xs ys first.2 then)

pub visits_then : {S C : Type 0} {follows : S → S → Type 0} {told : S → C → S → Type 0} {a b c : S}
    → HasVisited follows told a b → HasVisited follows told b c → HasVisited follows told a c
visits_then {follows} {told} {a} {b} {c} first then = record {
  visits = first.visits ++ then.visits;
  each = append follows told a b c first.visits then.visits first.each then.each;
}

pub no_visits : {S C : Type 0} {follows : S → S → Type 0} {told : S → C → S → Type 0} {a : S} → HasVisited follows told a a
no_visits = record { visits = []; each = refl }
