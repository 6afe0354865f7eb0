-- A connection that is given back, after others were closed to make room for it.
use Rattle.std.proofs.Common.{◌≡◌, ◌≢◌, ◌∙◌, ℕ, ◌+◌, ◌<◌, ◌⊎◌, Bool, List, [], ◌∷◌, arith, ap, inl, inr, subst, sym}
use Rattle.std.specs.List.{sum_by}
use Rattle.std.proofs.lemmas.Bool.{cases_eq}
use Rattle.slab.specs.Slab.{Slab, get}
use Rattle.mg_server.specs.Closing.{Closes, ClosesEach, IsMade, still_time}
use Rattle.mg_server.specs.GivingBack.{GivesBack, IsFull, IsInHand, NeedsQueue}
use Rattle.mg_server.specs.Places.{held_of, in_hand}
use Rattle.mg_server.specs.declared.limits.TheConstants.{MOST_HELD}
use Rattle.mg_server.specs.declared.place.Entry.{Entry}
use Rattle.mg_server.specs.declared.place.Rest.{Rest}
use Rattle.mg_server.specs.declared.place.Stay.{Stay}

module _ {T : Type 0} (wanted : ℕ) where
  -- a connection in hand is not closed
  stays : (old : Slab (Entry T)) (keys : List ℕ) (new : Slab (Entry T)) → ClosesEach wanted old keys new → (k number : ℕ) (called : Bool) → get old k ≡ in_hand number called
      → get new k ≡ get old k
  stays old [] new each k number called here = ap (λ (s : Slab (Entry T)). get s k) each
  stays old (key ∷ keys) new each k number called here =
      let one : get each.0 k ≡ get old k = elim (cases_eq k key) [
        | inl same ↦ absurd (cc (ap (still_time 1) (ap (get old) (sym same) ∙ here), each.1.stillest.waits))
        | inr other ↦ each.1.others k other
      ] in
      stays each.0 keys new each.2 k number called (one ∙ here) ∙ one

  -- a connection in hand was there before
  was : (old : Slab (Entry T)) (keys : List ℕ) (new : Slab (Entry T)) → ClosesEach wanted old keys new → (k number : ℕ) (called : Bool) → get new k ≡ in_hand number called
      → get old k ≡ get new k
  was old [] new each k number called here = sym (ap (λ (s : Slab (Entry T)). get s k) each)
  was old (key ∷ keys) new each k number called here =
      let later = was each.0 keys new each.2 k number called here in
      let one : get old k ≡ get each.0 k = elim (cases_eq k key) [
        | inl same ↦ absurd (cc (ap (get each.0) same ∙ each.1.gone, later ∙ here))
        | inr other ↦ sym (each.1.others k other)
      ] in
      one ∙ later

  module _ (old mid new : Slab (Entry T)) (closes : Closes wanted old mid) (index number : ℕ) (r : Rest) where
    pub given_back : (queue before next : List ℕ) (item : T) (stay : Stay) → before ≡ queue
        → GivesBack before next (get mid index) (get new index) index number item r stay → GivesBack queue next (get old index) (get new index) index number item r stay
    given_back queue before next item stay same back = subst (λ (q : List ℕ). GivesBack q next (get old index) (get new index) index number item r stay) same (record {
      called = back.called;
      was = was old closes.keys mid closes.each index number back.called back.was ∙ back.was;
      is = back.is;
      later = back.later;
    })

    pub not_given_back : (held : ℕ) → held ≡ sum_by held_of mid.slots → IsMade wanted mid → ((k : ℕ) → k ≢ index → get new k ≡ get mid k)
        → (IsInHand number (get mid index) → ⊥) ⊎ ((MOST_HELD < held + wanted) ⊎ NeedsQueue number r (get mid index))
        → (IsInHand number (get old index) → ⊥) ⊎ (IsFull wanted index new ⊎ NeedsQueue number r (get old index))
    not_given_back held counted made others why = elim why [
      | inl free ↦ inl (λ h. free (h.0, stays old closes.keys mid closes.each index number h.0 h.1 ∙ h.1))
      | inr (inl much) ↦ inr (inl (elim made [
        | inl alone ↦ inl alone
        | inr (inl room) ↦ absurd (omega (arith, much, room, counted))
        | inr (inr none) ↦ inr (λ k other. ap (still_time 1) (others k other) ∙ none k)
      ]))
      | inr (inr queue) ↦ inr (inr (queue.0, was old closes.keys mid closes.each index number queue.0 queue.1 ∙ queue.1, queue.2))
    ]
