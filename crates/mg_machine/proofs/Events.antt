-- What one event changes, and what many events change.
use Rattle.std.proofs.Common.{◌≡◌, ◌≢◌, ◌<◌, ℕ, zero, suc, List, [], ◌∷◌, ◌++◌, inl, inr, length, slice_set, refl, ap, sym, ◌∙◌, subst}
use Rattle.std.proofs.lemmas.List.{get_or-set_other, get_or-set_same, length-replicate, length-set}
use Rattle.std.proofs.lemmas.Option.{unwrap_or-slice_get}
use mathlib.Core.Logic.{dite}
use native.Mathlib.Decide.{ℕ_discrete}
use Rattle.mg_engine.specs.Commands.{Asked, is_write}
use Rattle.mg_machine.specs.Machine.{Commit, Event, publish, enter, answer, told, Machine, opened, seen_by, with_seen, after_write, write_reply, longer_of, happens, machine_after}
use Rattle.mg_engine.specs.Settled.{is_accepted}
use Rattle.mg_machine.specs.Laws.{AreAt, IsLaterMachine, IsAt, IsAtOtherSeat, AreAtOtherSeats, IsPrefix}
use Rattle.mg_machine.proofs.Beginnings.{two, itself, in_turn, longer_left, longer_right, longer_within}

-- ---- one seat

pub same_seat : (m : Machine) (seat : ℕ) (cs : List Commit) → seat < length m.seen → seen_by (with_seen m seat cs) seat ≡ cs
same_seat m seat cs here = unwrap_or-slice_get (slice_set m.seen seat cs) seat [] ∙ get_or-set_same m.seen seat cs [] here

other_seat : (m : Machine) (seat j : ℕ) (cs : List Commit) → j ≢ seat → seen_by (with_seen m seat cs) j ≡ seen_by m j
other_seat m seat j cs ne = unwrap_or-slice_get (slice_set m.seen seat cs) j [] ∙ get_or-set_other m.seen seat j cs [] ne ∙ sym (unwrap_or-slice_get m.seen j [])

each_seat : (m : Machine) (seat j : ℕ) (cs : List Commit) (P : List Commit → Type 0) → seat < length m.seen → (j ≡ seat → P cs) → P (seen_by m j) → P (seen_by (with_seen m seat cs) j)
each_seat m seat j cs P here is other =
    dite (ℕ_discrete j seat)
    (λ (e : j ≡ seat). subst P (sym (ap (seen_by (with_seen m seat cs)) e ∙ same_seat m seat cs here)) (is e))
    (λ ne. subst P (sym (other_seat m seat j cs ne)) other)

-- ---- one event

-- a machine with this number of seats, each of which has seen a prefix of the commits
pub record Stands (seats : ℕ) (m : Machine) : Type 0 where
  pub count : length m.seen ≡ seats
  pub beginnings : (seat : ℕ) → IsPrefix (seen_by m seat) m.commits

pub record Goes (seats : ℕ) (m n : Machine) : Type 0 where
  pub stands : Stands seats n
  pub grows : IsLaterMachine m n

stays : (seats : ℕ) (m : Machine) → Stands seats m → Goes seats m m
stays seats m s = record { stands = s; grows = record { commits = itself m.commits; seen = λ j. itself (seen_by m j) } }

-- a seat sees more commits, and the commits may be more
sees : (seats : ℕ) (m : Machine) (seat : ℕ) (cs new : List Commit) → seat < seats → Stands seats m → IsPrefix m.commits new → IsPrefix (seen_by m seat) cs → IsPrefix cs new → Goes seats m (with_seen (record m { commits = new }) seat cs)
sees seats m seat cs new at s more seen within =
    let here : seat < length m.seen = subst (λ (n : ℕ). seat < n) (sym s.count) at in
    record {
      stands = record {
        count = length-set m.seen seat cs ∙ s.count;
        beginnings = λ j. each_seat (record m { commits = new }) seat j cs (λ l. IsPrefix l new) here (λ e. within) (in_turn (seen_by m j) m.commits new (s.beginnings j) more);
      };
      grows = record {
        commits = more;
        seen = λ j. each_seat (record m { commits = new }) seat j cs (λ l. IsPrefix (seen_by m j) l) here (λ e. subst (λ (k : ℕ). IsPrefix (seen_by m k) cs) (sym e) seen) (itself (seen_by m j));
      };
    }

write_adds : (name : List ℕ) (cs : List Commit) (seat : ℕ) (c : Asked) → IsPrefix cs (after_write name cs seat c)
write_adds name cs seat c = elim (two (is_accepted (write_reply name cs c))) [ inl t ↦ rw t ((seat, c) ∷ [], refl) | inr f ↦ rw f (itself cs) ]

writes : (name : List ℕ) (seats : ℕ) (m : Machine) (seat : ℕ) (c : Asked) → seat < seats → Stands seats m → Goes seats m (with_seen (record m { commits = after_write name m.commits seat c }) seat (after_write name m.commits seat c))
writes name seats m seat c at s =
    let new = after_write name m.commits seat c in
    let more = write_adds name m.commits seat c in
    sees seats m seat new new at s more (in_turn (seen_by m seat) m.commits new (s.beginnings seat) more) (itself new)

looks : (seats : ℕ) (m : Machine) (seat : ℕ) → seat < seats → Stands seats m → Goes seats m (with_seen m seat m.commits)
looks seats m seat at s = sees seats m seat m.commits m.commits at s (itself m.commits) (s.beginnings seat) (itself m.commits)

pub step : (name : List ℕ) (seats : ℕ) (m : Machine) (e : Event) → IsAt seats e → Stands seats m → Goes seats m (happens name m e).0
step name seats m (publish seat c) at s = elim (two (is_write c)) [ inl t ↦ rw t (writes name seats m seat c at s) | inr f ↦ rw f (looks seats m seat at s) ]
step name seats m (enter seat) at s = looks seats m seat at s
step name seats m (answer seat c) at s = elim (two (is_write c)) [ inl t ↦ rw t (writes name seats m seat c at s) | inr f ↦ rw f (stays seats m s) ]
step name seats m (told seat by) at s =
    sees seats m seat (longer_of (seen_by m seat) (seen_by m by)) m.commits at.0 s (itself m.commits)
    (longer_left (seen_by m seat) (seen_by m by) m.commits (s.beginnings seat) (s.beginnings by))
    (longer_within (seen_by m seat) (seen_by m by) m.commits (s.beginnings seat) (s.beginnings by))

-- a seat that learns from another has seen what the other has seen
pub tells : (name : List ℕ) (seats : ℕ) (m : Machine) (seat by : ℕ) → seat < seats → Stands seats m → IsPrefix (seen_by m by) (seen_by (happens name m (told seat by)).0 seat)
tells name seats m seat by at s =
    let here : seat < length m.seen = subst (λ (n : ℕ). seat < n) (sym s.count) at in
    subst (IsPrefix (seen_by m by)) (sym (same_seat m seat (longer_of (seen_by m seat) (seen_by m by)) here))
    (longer_right (seen_by m seat) (seen_by m by) m.commits (s.beginnings seat) (s.beginnings by))

-- ---- many events

pub run : (name : List ℕ) (seats : ℕ) (m : Machine) (es : List Event) → AreAt seats es → Stands seats m → Goes seats m (machine_after name m es)
run name seats m [] at s = stays seats m s
run name seats m (e ∷ es) at s =
    let n = (happens name m e).0 in
    let g = step name seats m e at.0 s in
    let r = run name seats n es at.1 g.stands in
    let last = machine_after name n es in
    record {
      stands = r.stands;
      grows = record {
        commits = in_turn m.commits n.commits last.commits g.grows.commits r.grows.commits;
        seen = λ j. in_turn (seen_by m j) (seen_by n j) (seen_by last j) (g.grows.seen j) (r.grows.seen j);
      };
    }

nothing_seen : (seats j : ℕ) → seen_by (opened seats) j ≡ []
nothing_seen zero j = refl
nothing_seen (suc n) zero = refl
nothing_seen (suc n) (suc j) = nothing_seen n j

pub opened_stands : (seats : ℕ) → Stands seats (opened seats)
opened_stands seats = record {
  count = length-replicate seats [];
  beginnings = λ j. subst (λ (l : List Commit). IsPrefix l []) (sym (nothing_seen seats j)) (itself []);
}

pub after-append : (name : List ℕ) (m : Machine) (es fs : List Event) → machine_after name m (es ++ fs) ≡ machine_after name (machine_after name m es) fs
after-append name m [] fs = refl
after-append name m (e ∷ es) fs = after-append name (happens name m e).0 es fs

pub at_left : (seats : ℕ) (es fs : List Event) → AreAt seats (es ++ fs) → AreAt seats es
at_left seats [] fs at = tt
at_left seats (e ∷ es) fs at = (at.0, at_left seats es fs at.1)

pub at_right : (seats : ℕ) (es fs : List Event) → AreAt seats (es ++ fs) → AreAt seats fs
at_right seats [] fs at = at
at_right seats (e ∷ es) fs at = at_right seats es fs at.1

-- ---- events at other seats

back : (j seat : ℕ) → j ≢ seat → seat ≢ j
back j seat ne e = ne (sym e)

apart_step : (name : List ℕ) (m : Machine) (seat : ℕ) (e : Event) → IsAtOtherSeat seat e → seen_by (happens name m e).0 seat ≡ seen_by m seat
apart_step name m seat (publish j c) ne = elim (two (is_write c)) [
  | inl t ↦ rw t (other_seat (record m { commits = after_write name m.commits j c }) j seat (after_write name m.commits j c) (back j seat ne))
  | inr f ↦ rw f (other_seat m j seat m.commits (back j seat ne))
]
apart_step name m seat (enter j) ne = other_seat m j seat m.commits (back j seat ne)
apart_step name m seat (answer j c) ne = elim (two (is_write c)) [
  | inl t ↦ rw t (other_seat (record m { commits = after_write name m.commits j c }) j seat (after_write name m.commits j c) (back j seat ne))
  | inr f ↦ rw f refl
]
apart_step name m seat (told j by) ne = other_seat m j seat (longer_of (seen_by m j) (seen_by m by)) (back j seat ne)

pub apart_run : (name : List ℕ) (m : Machine) (seat : ℕ) (es : List Event) → AreAtOtherSeats seat es → seen_by (machine_after name m es) seat ≡ seen_by m seat
apart_run name m seat [] ne = refl
apart_run name m seat (e ∷ es) ne = apart_run name (happens name m e).0 seat es ne.1 ∙ apart_step name m seat e ne.0
