-- If the states of a service stand for others, such as worlds, its sessions are sessions of the others.
use Rattle.std.proofs.Common.{◌≡◌, ℕ, Bool, List, [], ◌∷◌, Option, Some, None, refl, inl, inr, subst, sym}
use Rattle.mg_engine.specs.Commands.{Asked, Answer, next}
use Rattle.mg_engine.specs.Execution.{Answers}
use Rattle.mg_engine.specs.World.{World}
use Rattle.mg_http.specs.declared.request.routes.Endpoint.{Endpoint}
use Rattle.mg_http.specs.declared.sessions.SessionEnd.{SessionEnd}
use Rattle.mg_http.specs.declared.sessions.SessionEnd.TheVariants.{Eof, Closed, Refused, ReadFault, WriteFault, Limit}
use Rattle.mg_http.specs.Session.{Call, HandlesBody, Handles, Serves, IsLastCall, SaysNothing, SaysLast, IsSessionEnd, Converses}
use Rattle.mg_http.specs.AtWorld.{AtWorld}
use Rattle.mg_http.specs.Target.{Request, body, asks, refuses}
use Rattle.mg_http.proofs.Forms.{exchange, handling}

-- a command that is answered at a world leaves a world for which the service stands
pub at_world : (ends : World → Type 0) (w : World) (c : Asked) (r : Option Answer) → Answers w c r ends → (u : World) × AtWorld w c r u × ends u
at_world ends w c None h = (w, refl, h)
at_world ends w c (Some a) h = (next w c, (h.0, refl), h.1)

module _ {S T : Type 0} (answers : S → Asked → Option Answer → S → Type 0) (shown : T → Asked → Option Answer → T → Type 0) (stands : S → T → Type 0) (db : List ℕ)
    (steps : (old : S) (c : Asked) (r : Option Answer) (new : S) (w : T) → answers old c r new → stands old w → (u : T) × shown w c r u × stands new u) where
  same : (old new : S) (w : T) → new ≡ old → stands old w → stands new w
  same old new w e h = subst (λ (s : S). stands s w) (sym e) h

  body_handled : (old : S) (endpoint : Endpoint) (bytes : List ℕ) (reply : Option Answer) (new : S) (w : T) → HandlesBody answers endpoint bytes (handling old reply new) → stands old w
      → (u : T) × HandlesBody shown endpoint bytes (handling w reply u) × stands new u
  body_handled old endpoint bytes reply new w (inl asked) h =
      let s = steps old _ reply new w asked.2 h in
      (s.0, inl (asked.0, asked.1, s.1), s.2)
  body_handled old endpoint bytes reply new w (inr (inl none)) h = (w, inr (inl (none.0, none.1, refl)), same old new w none.2 h)
  body_handled old endpoint bytes reply new w (inr (inr refused)) h = (w, inr (inr (refused.0, refl)), same old new w refused.1 h)

  handled : (old : S) (request : Request) (bytes : List ℕ) (reply : Option Answer) (new : S) (w : T) → Handles answers request bytes (handling old reply new) → stands old w
      → (u : T) × Handles shown request bytes (handling w reply u) × stands new u
  handled old (body endpoint) bytes reply new w k h = body_handled old endpoint bytes reply new w k h
  handled old (asks command) bytes reply new w k h = steps old command reply new w k h
  handled old (refuses refusal) bytes reply new w k h = (w, (k.0, refl), same old new w k.1 h)

  pub served : (old : S) (bytes : List ℕ) (calls : List Call) (text rest : List ℕ) (new : S) (w : T) → Serves answers db calls rest (exchange old bytes text new) → stands old w
      → (u : T) × Serves shown db calls rest (exchange w bytes text u) × stands new u
  served old bytes [] text rest new w h st = (w, (h.0, h.1, refl), same old new w h.2 st)
  served old bytes (call ∷ calls) text rest new w h st =
      let one = handled old call.message.request call.message.body call.reply h.mid w h.handled st in
      let more = served h.mid h.after calls h.later rest new one.0 h.others_follow one.2 in (
        more.0,
        record {
          after = h.after;
          later = h.later;
          mid = one.0;
          begins = h.begins;
          stays = h.stays;
          handled = one.1;
          text_is = h.text_is;
          others_follow = more.1;
        },
        more.2,
      )

  nothing_said : (old : S) (rest last : List ℕ) (new : S) (w : T) → SaysNothing (exchange old rest last new) → stands old w
      → (u : T) × SaysNothing (exchange w rest last u) × stands new u
  nothing_said old rest last new w h st = (w, (h.0, refl), same old new w h.1 st)

  last_said : (old : S) (rest last : List ℕ) (new : S) (w : T) → SaysLast answers db (exchange old rest last new) → stands old w
      → (u : T) × SaysLast shown db (exchange w rest last u) × stands new u
  last_said old rest last new w (call, closes, answered) st =
      let one = handled old call.message.request call.message.body call.reply new w answered.handled st in
      let again : IsLastCall shown db call (exchange w rest last one.0) = record { after = answered.after; begins = answered.begins; handled = one.1; text_is = answered.text_is } in
      (one.0, (call, closes, again), one.2)

  ended : (starved : Bool) (end : SessionEnd) (old : S) (rest last : List ℕ) (new : S) (w : T) → IsSessionEnd answers db starved end (exchange old rest last new) → stands old w
      → (u : T) × IsSessionEnd shown db starved end (exchange w rest last u) × stands new u
  ended starved Eof old rest last new w h st = let k = nothing_said old rest last new w h.1 st in (k.0, (h.0, k.1, h.2), k.2)
  ended starved ReadFault old rest last new w h st = let k = nothing_said old rest last new w h.1 st in (k.0, (h.0, k.1, h.2), k.2)
  ended starved Limit old rest last new w h st = nothing_said old rest last new w h st
  ended starved Closed old rest last new w h st = last_said old rest last new w h st
  ended starved Refused old rest last new w h st = (w, (h.0, refl), same old new w h.1 st)
  ended starved WriteFault old rest last new w (inl h) st = let k = nothing_said old rest last new w h st in (k.0, inl k.1, k.2)
  ended starved WriteFault old rest last new w (inr (inl h)) st = let k = last_said old rest last new w h st in (k.0, inr (inl k.1), k.2)
  ended starved WriteFault old rest last new w (inr (inr h)) st = (w, inr (inr (h.0, refl)), same old new w h.1 st)

  pub converses : (old : S) (bytes written : List ℕ) (new : S) (starved : Bool) (end : SessionEnd) (w : T) → Converses answers db starved end (exchange old bytes written new)
      → stands old w → (u : T) × Converses shown db starved end (exchange w bytes written u) × stands new u
  converses old bytes written new starved end w h st =
      let first = served old bytes h.calls h.text h.rest h.mid w h.served st in
      let last = ended starved end h.mid h.rest h.last new first.0 h.ended first.2 in (
        last.0,
        record { calls = h.calls; text = h.text; rest = h.rest; mid = first.0; served = first.1; last = h.last; ended = last.1; written_is = h.written_is },
        last.2,
      )
