-- From the calls of one service to those that a client has seen.
use Rattle.std.proofs.Common.{◌≡◌, ◌⊎◌, List, [], ◌∷◌, ◌++◌, append_assoc, append-nil, sym, refl, ap, ◌∙◌, subst, inl, inr}
use Rattle.mg_wire.specs.declared.connection.Connection.{Connection}
use Rattle.mg_wire.specs.declared.request.Request.{Request}
use Rattle.mg_wire.specs.declared.response.Response.{Response}
use Rattle.mg_wire.specs.Connection.{Holds, Told}
use Rattle.mg_wire.specs.Transcript.{Call, Chain, Asks, AnswersMet}

module _ {S : Type 0} (answers : S → Request → Response → S → Type 0) where
  pub chain_then : (a b c : S) (xs ys : List Call) → Chain answers a xs b → Chain answers b ys c → Chain answers a (xs ++ ys) c
  chain_then a b c [] ys x y = subst (λ (s : S). Chain answers s ys c) x y
  chain_then a b c (k ∷ xs) ys x y = (x.0, x.1, chain_then x.0 b c xs ys x.2 y)

  -- nothing was asked
  pub asks_none : (old new : List Call) (now : S) → new ≡ old → Asks answers old now new now
  asks_none old new now same = record { calls = []; more = same ∙ sym (append-nil old); chain = refl }

  -- one request was asked
  pub asks_one : (old new : List Call) (from now : S) (call : Call) → new ≡ old ++ call ∷ [] → answers from call.0 call.1 now → Asks answers old from new now
  asks_one old new from now call more step = record { calls = call ∷ []; more = more; chain = (now, step, refl) }

  pub asks_then : (old mid new : List Call) (a b c : S) → Asks answers old a mid b → Asks answers mid b new c → Asks answers old a new c
  asks_then old mid new a b c x y = record {
    calls = x.calls ++ y.calls;
    more = y.more ∙ ap (λ (cs : List Call). cs ++ y.calls) x.more ∙ append_assoc old x.calls y.calls;
    chain = chain_then a b c x.calls y.calls x.chain y.chain;
  }

module _ {S : Type 0} (meets : S → S → Type 0) (same : (a : S) → meets a a) (onward : (a b c : S) → meets a b → meets b c → meets a c) (answers : S → Request → Response → S → Type 0) where
  -- one service is met again after each of its own responses
  met_itself : (a b : S) (cs : List Call) → Chain answers a cs b → Chain (AnswersMet answers meets) a cs b
  met_itself a b [] x = x
  met_itself a b (k ∷ cs) x = (x.0, (a, same a, x.1), met_itself x.0 b cs x.2)

  -- from the state that a client met last to the one before the calls
  met_first : (last now b : S) (cs : List Call) → meets last now → Chain answers now cs b
      → ((cs ≡ []) × (b ≡ now)) ⊎ Chain (AnswersMet answers meets) last cs b
  met_first last now b [] m x = inl (refl, x)
  met_first last now b (k ∷ cs) m x = inr (x.0, (now, m, x.1), met_itself x.0 b cs x.2)

  -- a service that a client may meet was asked more
  pub told_more : (from now before after : S) (c n : Connection) → Told meets answers from c now → meets now before
      → Asks answers c.calls.items before n.calls.items after → Holds n → Told meets answers from n after
  told_more from now before after c n t m asks holds =
      let met = onward t.last now before t.meeting m in
      elim (met_first t.last before after asks.calls met asks.chain) [
        | inl none ↦ record {
          last = t.last;
          chain = subst (λ (cs : List Call). Chain (AnswersMet answers meets) from cs t.last)
              (sym (asks.more ∙ ap (λ (cs : List Call). c.calls.items ++ cs) none.0 ∙ append-nil c.calls.items)) t.chain;
          meeting = subst (meets t.last) (sym none.1) met;
          holds = holds;
        }
        | inr chain ↦ record {
          last = after;
          chain = subst (λ (cs : List Call). Chain (AnswersMet answers meets) from cs after) (sym asks.more)
              (chain_then (AnswersMet answers meets) from t.last after c.calls.items asks.calls t.chain chain);
          meeting = same after;
          holds = holds;
        }
      ]

  -- nothing was asked
  pub told_still : (from now : S) (c n : Connection) → n.calls ≡ c.calls → (Holds c → Holds n) → Told meets answers from c now → Told meets answers from n now
  told_still from now c n calls holds t = record {
    last = t.last;
    chain = subst (λ (cs : List Call). Chain (AnswersMet answers meets) from cs t.last) (sym (ap (λ k. k.items) calls)) t.chain;
    meeting = t.meeting;
    holds = holds t.holds;
  }

  pub told_new : (now : S) (c : Connection) → c.calls.items ≡ [] → Holds c → Told meets answers now c now
  told_new now c none holds = record {
    last = now;
    chain = subst (λ (cs : List Call). Chain (AnswersMet answers meets) now cs now) (sym none) refl;
    meeting = same now;
    holds = holds;
  }
