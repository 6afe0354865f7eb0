-- The entries of the reply to a bulk, and the tokens that are written for them.
use Rattle.std.proofs.Common.{◌≡◌, ℕ, List, [], ◌∷◌, ◌++◌, Bool, true, false, codes, Some, Err, map, refl, ap, ap₂, ◌∙◌, append_assoc}
use Rattle.json.specs.Token.{Token}
use Rattle.mg_value.specs.Held.{items_tokens_of, tokens_of}
use Rattle.mg_value.specs.Value.{Items, Value, item}
use Rattle.mg_doc.specs.Document.{Edit}
use Rattle.mg_doc.specs.declared.error.EditRefusal.TheVariants.{BadHistory, Conflict}
use Rattle.mg_shard.specs.Edits.{id_in}
use Rattle.mg_engine.specs.Bulk.{entries_of, entry_before, entry_of, refused_entry}
use Rattle.mg_engine.specs.Outcomes.{entries_view, reply_in, id_view}
use Rattle.mg_engine.specs.declared.bulk.apply.EditOutcome.{EditOutcome}

-- the entries by the outcomes are those by the edits, if both have the same ids
pub by_ids : (b : Bool) (es : List Edit) (os : List EditOutcome) → map id_in es ≡ map id_view os → entries_of b es (map reply_in os) ≡ entries_view b os
by_ids b [] [] h = refl
by_ids b [] (o ∷ os) h = absurd cc
by_ids b (e ∷ es) [] h = absurd cc
by_ids b (e ∷ es) (o ∷ os) h =
    let id : id_in e ≡ id_view o = cc in
    let rest : map id_in es ≡ map id_view os = cc in
    ap₂ (λ i vs. entry_before (entry_of b i (reply_in o)) vs) id (by_ids b es os rest)

-- a refused edit has an entry, whether edits are new or not
pub conflict_has_entry : (b : Bool) (id : List ℕ) → entry_of b id (Err Conflict) ≡ Some (refused_entry (codes "conflict") id (codes "Document update conflict."))
conflict_has_entry true id = refl
conflict_has_entry false id = refl

pub bad_history_has_entry : (b : Bool) (id : List ℕ) → entry_of b id (Err BadHistory) ≡ Some (refused_entry (codes "bad_history") id (codes "Revision history does not fit the document."))
bad_history_has_entry true id = refl
bad_history_has_entry false id = refl

-- the tokens of a value, in front of those of the items that follow
pub tokens_before : (old new : List Token) (v : Value) → new ≡ old ++ tokens_of v → (vs : Items) → new ++ items_tokens_of vs ≡ old ++ items_tokens_of (item v vs)
tokens_before old new v e vs = ap (λ t. t ++ items_tokens_of vs) e ∙ append_assoc old (tokens_of v) (items_tokens_of vs)

-- eight tokens, one after the other
pub eight : (t₀ t₁ t₂ t₃ t₄ t₅ t₆ t₇ t₈ : List Token) (a b c d e f g h : Token) → t₁ ≡ t₀ ++ a ∷ [] → t₂ ≡ t₁ ++ b ∷ [] → t₃ ≡ t₂ ++ c ∷ [] → t₄ ≡ t₃ ++ d ∷ []
    → t₅ ≡ t₄ ++ e ∷ [] → t₆ ≡ t₅ ++ f ∷ [] → t₇ ≡ t₆ ++ g ∷ [] → t₈ ≡ t₇ ++ h ∷ [] → t₈ ≡ t₀ ++ a ∷ b ∷ c ∷ d ∷ e ∷ f ∷ g ∷ h ∷ []
eight t₀ t₁ t₂ t₃ t₄ t₅ t₆ t₇ t₈ a b c d e f g h e₁ e₂ e₃ e₄ e₅ e₆ e₇ e₈ =
    e₈ ∙ ap (λ t. t ++ h ∷ []) (e₇ ∙ ap (λ t. t ++ g ∷ []) (e₆ ∙ ap (λ t. t ++ f ∷ []) (e₅ ∙ ap (λ t. t ++ e ∷ []) (e₄ ∙ ap (λ t. t ++ d ∷ [])
    (e₃ ∙ ap (λ t. t ++ c ∷ []) (e₂ ∙ ap (λ t. t ++ b ∷ []) e₁))))))
    ∙ simp append_assoc
