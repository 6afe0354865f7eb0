-- A face over a seat whose commits are kept: each plan is carried out at a world, or the answer is a 503.
use Rattle.std.proofs.Common.{◌≡◌, ◌⊎◌, inl, inr, ℕ, List, Bool, true, false, Option, Some, None, refl}
use Rattle.std.specs.Prelude.{MatchBool}
use Rattle.http1.specs.Fields.{Header}
use Rattle.mg_engine.specs.Commands as engine
use Rattle.mg_engine.specs.Commands.{Asked, get}
use Rattle.mg_live.specs.SeatView.{SeatView, SeatLooks, SeatReads, Answered}
use Rattle.mg_wire.specs.declared.response.Response.{Response}
use Rattle.mg_face.specs.Plan.{Plan, says, asks, finds, looks}
use Rattle.mg_face.specs.Answer.{IsAnswered, IsLack, passed}
use Rattle.mg_face.specs.Shown.{shown}
use Rattle.mg_face.specs.Way as Shown
use Rattle.mg_face.specs.Way.{Way}
use Rattle.mg_face.specs.Face.{is_found, Shows, IsShown, GoesOn, Carries}
use Rattle.mg_face.specs.Seats.{IsExecuted, IsLookedFor, IsCarriedOut}
use Rattle.mg_face.proofs.SeatLemmas as seat
use Rattle.mango_server.specs.Stored.{IsPassedOn, StoredAnswer, storage_refusal}

module _ (db : List ℕ) (fields : List Header) where
  -- the refusal of a write that may or may not be stored is a 503, however it is shown
  refuses : (way : Way) (r : Response) → IsAnswered (shown db fields way storage_refusal) r → IsLack r
  refuses Shown.plain r is = is.status
  refuses Shown.document r is = is.status
  refuses (Shown.edit change entry) r is = is.status
  refuses (Shown.bulk refusals) r is = is.status

  shows : (old : SeatView) (c : Asked) (way : Way) (a given : Option engine.Answer) (r : Response) (new : SeatView)
      → IsPassedOn a given → Answered db old c a new → Shows db fields way given r → IsExecuted db fields old c way r new ⊎ IsLack r
  shows old c way (Some a) given r new passed answered is_shown =
      let same : Shows db fields way (Some a) r = rw passed at is_shown in
      let done : IsShown db fields (Answered db old c) way r new = record { answer = Some a; answered = answered; shows = same } in
      seat.carried db fields old (asks c way) r new (inl done)
  shows old c way None None r new passed answered lack = inr lack
  shows old c way None (Some given) r new passed answered (inl is) = inr (refuses way r (rw passed at is))
  shows old c way None (Some given) r new passed answered (inr lack) = inr lack.1

  looked_for : (id : List ℕ) (c : Asked) (way : Way) (old mid : SeatView) (a : engine.Answer) (r : Response) (new : SeatView) (b : Bool) → is_found a ≡ b
      → SeatReads db old (get id false) (Some a) mid
      → MatchBool b (IsShown db fields (StoredAnswer db mid c) way r new) (IsAnswered (passed a) r × (new ≡ mid))
      → IsLookedFor db fields old id c way r new ⊎ IsLack r
  looked_for id c way old mid a r new true is reads s = elim (shows mid c way s.answered.0 s.answer r new s.answered.1 s.answered.2 s.shows) [
    | inl done ↦ inl (seat.looked db fields id c way old mid a r new true is reads done)
    | inr lack ↦ inr lack
  ]
  looked_for id c way old mid a r new false is reads s = inl (seat.looked db fields id c way old mid a r new false is reads s)

  found : (id : List ℕ) (c : Asked) (way : Way) (old mid : SeatView) (a given : Option engine.Answer) (r : Response) (new : SeatView)
      → IsPassedOn a given → SeatReads db old (get id false) a mid → GoesOn (StoredAnswer db) db fields given c way mid r new
      → IsLookedFor db fields old id c way r new ⊎ IsLack r
  found id c way old mid (Some a) given r new passed reads on = looked_for id c way old mid a r new (is_found a) refl reads (rw passed at on)
  found id c way old mid None None r new passed reads on = inr on.0
  found id c way old mid None (Some given) r new passed reads on = let refused = rw passed at on in inr refused.0.status

  pub carried : (old : SeatView) (plan : Plan) (r : Response) (new : SeatView)
      → Carries (StoredAnswer db) (SeatLooks db) db fields plan old r new → IsCarriedOut db fields old plan r new ⊎ IsLack r
  carried old (says said) r new said_so = seat.carried db fields old (says said) r new said_so
  carried old (asks c way) r new (inl is) = shows old c way is.answered.0 is.answer r new is.answered.1 is.answered.2 is.shows
  carried old (asks c way) r new (inr lack) = inr lack.0
  carried old (finds id c way) r new (inl is) = found id c way old is.mid is.read.0 is.answer r new is.read.1 is.read.2 is.goes_on
  carried old (finds id c way) r new (inr lack) = inr lack.0
  carried old (looks q way) r new (inl is) = seat.sees db fields old q way is.answer r new is.answered is.shows
  carried old (looks q way) r new (inr lack) = inr lack.0
