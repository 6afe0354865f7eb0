-- A face over a seat: each plan is carried out at a world.
use Rattle.std.proofs.Common.{◌≡◌, ◌⊎◌, inl, inr, ℕ, List, Bool, true, false, Option, Some, None, refl, sym, subst}
use Rattle.http1.specs.Fields.{Header}
use Rattle.std.specs.Prelude.{MatchBool}
use Rattle.mg_engine.specs.Commands as engine
use Rattle.mg_engine.specs.Commands.{Asked, get, is_write}
use Rattle.mg_engine.specs.Questions.{Question}
use Rattle.mg_live.specs.SeatView.{SeatView, SeatLooks, SeatReads, SeatWrites, Answered}
use Rattle.mg_wire.specs.declared.response.Response.{Response}
use Rattle.mg_face.specs.Plan.{Plan, says, asks, finds, looks}
use Rattle.mg_face.specs.Answer.{IsAnswered, IsLack, passed}
use Rattle.mg_face.specs.Shown.{shown}
use Rattle.mg_face.specs.Face.{is_found, Shows, IsShown, GoesOn, Carries}
use Rattle.mg_face.specs.Way.{Way}
use Rattle.mg_face.specs.Seats.{IsExecuted, IsLookedAt, IsLookedFor, IsCarriedOut}

module _ (db : List ℕ) (fields : List Header) where
  -- a read is answered at the world that the seat has then seen
  read : (old : SeatView) (c : Asked) (way : Way) (a : engine.Answer) (r : Response) (new : SeatView) → is_write c ≡ false
      → SeatReads db old c (Some a) new → IsAnswered (shown db fields way a) r → IsExecuted db fields old c way r new
  read old c way a r new reads (later, is) answered = record {
    commits = new.seen;
    later = later.seen;
    answer = λ room. rw (← is) answered;
    seen = rw reads refl;
  }

  -- a write is answered after the commits that its seat has then seen before its own
  write : (old : SeatView) (c : Asked) (way : Way) (a : engine.Answer) (r : Response) (new : SeatView) → is_write c ≡ true
      → SeatWrites db old c (Some a) new → IsAnswered (shown db fields way a) r → IsExecuted db fields old c way r new
  write old c way a r new writes w answered = record {
    commits = w.commits;
    later = w.later;
    answer = λ room. let is = rw room at w.answer in rw (← is) answered;
    seen = rw writes w.seen;
  }

  -- a seat's answer is shown at such a world
  answer : (old : SeatView) (c : Asked) (way : Way) (a : engine.Answer) (r : Response) (new : SeatView) (b : Bool) → is_write c ≡ b
      → Answered db old c (Some a) new → IsAnswered (shown db fields way a) r → IsExecuted db fields old c way r new
  answer old c way a r new true is answers answered = write old c way a r new is (rw is at answers) answered
  answer old c way a r new false is answers answered = read old c way a r new is (rw is at answers) answered

  shows : (old : SeatView) (c : Asked) (way : Way) (o : Option engine.Answer) (r : Response) (new : SeatView)
      → Answered db old c o new → Shows db fields way o r → IsExecuted db fields old c way r new ⊎ IsLack r
  shows old c way None r new answers lack = inr lack
  shows old c way (Some a) r new answers (inl answered) = inl (answer old c way a r new (is_write c) refl answers answered)
  shows old c way (Some a) r new answers (inr lack) = inr lack.1

  abbrev pub Goes : Bool → engine.Answer → Asked → Way → SeatView → Response → SeatView → Type 0
  Goes b a c way mid r new = MatchBool b (IsExecuted db fields mid c way r new) (IsAnswered (passed a) r × (new ≡ mid))

  -- the answer to the look is that at the world of what the seat has then seen
  pub looked : (id : List ℕ) (c : Asked) (way : Way) (old mid : SeatView) (a : engine.Answer) (r : Response) (new : SeatView) (b : Bool) → is_found a ≡ b
      → SeatReads db old (get id false) (Some a) mid → Goes b a c way mid r new → IsLookedFor db fields old id c way r new
  looked id c way old mid a r new b is (later, same) goes = record {
    mid = mid;
    later = later;
    goes_on = subst (λ (x : engine.Answer). Goes (is_found x) x c way mid r new) same (subst (λ (t : Bool). Goes t a c way mid r new) (sym is) goes);
  }

  -- the document that was looked for is found, or not
  found : (id : List ℕ) (c : Asked) (way : Way) (old mid : SeatView) (a : engine.Answer) (r : Response) (new : SeatView) (b : Bool) → is_found a ≡ b
      → SeatReads db old (get id false) (Some a) mid
      → MatchBool b (IsShown db fields (Answered db mid c) way r new) (IsAnswered (passed a) r × (new ≡ mid))
      → IsLookedFor db fields old id c way r new ⊎ IsLack r
  found id c way old mid a r new true is reads done = elim (shows mid c way done.answer r new done.answered done.shows) [
    | inl executed ↦ inl (looked id c way old mid a r new true is reads executed)
    | inr lack ↦ inr lack
  ]
  found id c way old mid a r new false is reads done = inl (looked id c way old mid a r new false is reads done)

  goes_on : (id : List ℕ) (c : Asked) (way : Way) (old mid : SeatView) (o : Option engine.Answer) (r : Response) (new : SeatView)
      → SeatReads db old (get id false) o mid → GoesOn (Answered db) db fields o c way mid r new
      → IsLookedFor db fields old id c way r new ⊎ IsLack r
  goes_on id c way old mid None r new reads on = inr on.0
  goes_on id c way old mid (Some a) r new reads on = found id c way old mid a r new (is_found a) refl reads on

  -- a question is answered at the world that the seat has then seen
  pub sees : (old : SeatView) (q : Question) (way : Way) (o : Option engine.Answer) (r : Response) (new : SeatView)
      → SeatLooks db old q o new → Shows db fields way o r → IsLookedAt db fields old q way r new ⊎ IsLack r
  sees old q way None r new seen lack = inr lack
  sees old q way (Some a) r new (later, is) (inl answered) = inl (record { later = later; answer = rw (← is) answered })
  sees old q way (Some a) r new (later, is) (inr lack) = inr lack.1

  -- a plan is carried out at a world, or memory ran out
  pub carried : (old : SeatView) (plan : Plan) (r : Response) (new : SeatView)
      → Carries (Answered db) (SeatLooks db) db fields plan old r new → IsCarriedOut db fields old plan r new ⊎ IsLack r
  carried old (says said) r new (inl answered, same) = inl (answered, same)
  carried old (says said) r new (inr lack, same) = inr lack
  carried old (asks c way) r new (inl shown) = shows old c way shown.answer r new shown.answered shown.shows
  carried old (asks c way) r new (inr lack) = inr lack.0
  carried old (finds id c way) r new (inl f) = goes_on id c way old f.mid f.answer r new f.read f.goes_on
  carried old (finds id c way) r new (inr lack) = inr lack.0
  carried old (looks q way) r new (inl shown) = sees old q way shown.answer r new shown.answered shown.shows
  carried old (looks q way) r new (inr lack) = inr lack.0
