-- The laws of running sessions.
use Rattle.std.proofs.Common.{◌≡◌, ◌<◌, ℕ, List, [], ◌∷◌, ◌++◌, Some, length, refl, ap, sym, ◌∙◌, subst}
use Rattle.mg_engine.specs.World.{empty_world}
use Rattle.mg_engine.specs.Commands.{reply_of, replies_of}
use Rattle.mg_machine.specs.Machine.{Event, enter, told, Machine, opened, seen_by, entered, commands_of, world_of, happens, machine_after}
use Rattle.mg_machine.specs.Laws.{AreAt, AreAtOtherSeats, IsLaterMachine, IsPrefix, after, SeatsSeePrefixes, NothingIsLost, WhatIsLearnedIsSeen, CommitsAreAnswered, ReadsAreOfTheSeen, SnapshotsAreKept, TheCommandDecides}
use Rattle.mg_machine.proofs.Beginnings.{in_turn}
use Rattle.mg_machine.proofs.Events.{Stands, step, tells, run, opened_stands, after-append, at_left, at_right, same_seat, apart_run}
use Rattle.mg_machine.proofs.Commits.{committed, replies-one}

pub seats_see_beginnings : SeatsSeePrefixes
seats_see_beginnings name seats es at seat = (run name seats (opened seats) es at (opened_stands seats)).stands.beginnings seat

stands_after : (name : List ℕ) (seats : ℕ) (es : List Event) → AreAt seats es → Stands seats (after name seats es)
stands_after name seats es at = (run name seats (opened seats) es at (opened_stands seats)).stands

pub nothing_is_lost : NothingIsLost
nothing_is_lost name seats es more at =
    let m = after name seats es in
    subst (IsLaterMachine m) (sym (after-append name (opened seats) es more)) (run name seats m more (at_right seats es more at) (stands_after name seats es (at_left seats es more at))).grows

pub what_is_learned_is_seen : WhatIsLearnedIsSeen
what_is_learned_is_seen name seats es more seat by at =
    let m = after name seats es in
    let n = (happens name m (told seat by)).0 in
    let s = stands_after name seats es (at_left seats es (told seat by ∷ more) at) in
    let here = at_right seats es (told seat by ∷ more) at in
    let g = step name seats m (told seat by) here.0 s in
    let last = machine_after name n more in
    let seen : IsPrefix (seen_by m by) (seen_by last seat) =
    in_turn (seen_by m by) (seen_by n seat) (seen_by last seat) (tells name seats m seat by here.0.0 s) ((run name seats n more here.1 g.stands).grows.seen seat) in
    subst (λ (x : Machine). IsPrefix (seen_by m by) (seen_by x seat)) (sym (after-append name (opened seats) es (told seat by ∷ more))) seen

pub commits_are_answered : CommitsAreAnswered
commits_are_answered name seats es at =
    let d = committed name (opened seats) es in
    record { commits = sym d.0; replies = d.1 ∙ ap (λ cs. replies_of (empty_world name) (commands_of cs)) (sym d.0) }

is_said : {A : Type 0} (a b : A) → Some a ≡ Some b → a ≡ b
is_said a b h = cc

pub reads_are_of_the_seen : ReadsAreOfTheSeen
reads_are_of_the_seen name seats es seat c a at reads replied =
    let cs = seen_by (after name seats es) seat in
    let h : Some (reply_of (world_of name cs) c) ≡ Some a = rw reads at replied in
    replies-one (empty_world name) (commands_of cs) c ∙ ap (λ x. replies_of (empty_world name) (commands_of cs) ++ x ∷ []) (is_said (reply_of (world_of name cs) c) a h)

-- while all events are at other seats, a seat has seen what it had seen when it caught up
looked : (name : List ℕ) (seats : ℕ) (es others : List Event) (seat : ℕ) → AreAt seats (es ++ enter seat ∷ others) → AreAtOtherSeats seat others → seen_by (after name seats (es ++ enter seat ∷ others)) seat ≡ (after name seats es).commits
looked name seats es others seat at ne =
    let m = after name seats es in
    let s = stands_after name seats es (at_left seats es (enter seat ∷ others) at) in
    let here : seat < length m.seen = subst (λ (n : ℕ). seat < n) (sym s.count) (at_right seats es (enter seat ∷ others) at).0 in
    ap (λ x. seen_by x seat) (after-append name (opened seats) es (enter seat ∷ others)) ∙ apart_run name (entered m seat) seat others ne ∙ same_seat m seat m.commits here

pub snapshots_are_kept : SnapshotsAreKept
snapshots_are_kept name seats es others seat c at ne reads = rw reads (ap (λ cs. Some (reply_of (world_of name cs) c)) (looked name seats es others seat at ne))

pub the_command_decides : TheCommandDecides
the_command_decides = record {
  writes = λ name m seat c is. rw is refl;
  reads = λ name m seat c is. rw is refl;
}
