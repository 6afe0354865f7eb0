-- Shards with the rows of exactly the indexes of a catalog.
use Rattle.std.proofs.Common.{◌≡◌, ℕ, zero, suc, ◌<◌, Bool, true, false, cond, List, [], ◌∷◌, All, Option, Some, None, is_some, option_map, Result, Err, length, map, replicate, slice_get, unwrap_or, refl, sym, ap, ◌∙◌, subst, arith}
use Rattle.std.proofs.lemmas.List.{length-map}
use Rattle.std.proofs.lemmas.Option.{slice_get-map}
use Rattle.std.specs.FinMap as finite
use Rattle.mg_index.specs.Catalog.{definition_at, is_named, with_definition, without_definition}
use Rattle.mg_index.specs.Definition.{IndexDefinition}
use Rattle.mg_index.specs.Reading.{ReadsAs}
use Rattle.mg_index.specs.declared.error.IndexError.{IndexError}
use Rattle.mg_index.specs.declared.error.IndexError.TheVariants.{Shape, Mixed, NoMemory}
use Rattle.mg_shard.specs.Dealt.{Placing, ShardsStandFor, histories_on}
use Rattle.mg_shard.specs.Documents.{StandFor}
use Rattle.mg_shard.specs.Histories.{Histories}
use Rattle.mg_shard.specs.Shard.{ShardView}
use Rattle.mg_engine.specs.Commands.{create_answer, refusal_of_index, refused, world_defined}
use Rattle.mg_engine.specs.Faults.{fault_of}
use Rattle.mg_engine.specs.World.{World}
use Rattle.mg_engine.specs.declared.fault.Fault.{Fault}
use Rattle.mg_engine.specs.declared.fault.Fault.TheVariants.{Refused, NoMemory as want}
use Rattle.mg_engine.specs.declared.refusal.Refusal.{Refusal}
use Rattle.mg_engine.specs.declared.refusal.Refusal.TheVariants.{WrongShape, MixedSort}
use Rattle.mg_engine.specs.Settled.{shard_without, state_with, state_without}
use Rattle.mg_scan.specs.Built.{with_index}
use Rattle.mg_engine.specs.Stands.{HaveRows, StateStandsFor, StateView, definitions_of}
use Rattle.mg_engine.specs.StateView.{empty_shard}

-- the refusal in a fault, or this one for `NoMemory`
abbrev refusal_in : Refusal → Fault → Refusal
refusal_in otherwise (Refused x) = x
refusal_in otherwise want = otherwise

-- shards have the rows of these indexes if shards with the same indexes do
pub have_same : (ds : List IndexDefinition) (ss ts : List ShardView) → definitions_of ss ≡ definitions_of ts → HaveRows ds ts → HaveRows ds ss
have_same ds ss ts e h = subst (λ xs. All (λ given. given ≡ ds) xs) (sym e) h

-- each shard has these indexes
pub each_has : (ds : List IndexDefinition) (ss : List ShardView) → HaveRows ds ss → All (λ s. s.definitions ≡ ds) ss
each_has ds [] h k x lt = absurd (omega arith)
each_has ds (s ∷ ss) h zero x lt = h zero [] (omega arith)
each_has ds (s ∷ ss) h (suc k) x lt = each_has ds ss (λ k x lt. h (suc k) x (omega arith)) k x (omega arith)

pub have_rows : (ds : List IndexDefinition) (ss : List ShardView) → All (λ s. s.definitions ≡ ds) ss → HaveRows ds ss
have_rows ds [] h k x lt = absurd (omega arith)
have_rows ds (s ∷ ss) h zero x lt = h zero s (omega arith)
have_rows ds (s ∷ ss) h (suc k) x lt = have_rows ds ss (λ k x lt. h (suc k) x (omega arith)) k x (omega arith)

-- the rows of shards that are all changed in the same way
pub changed_rows : (f : ShardView → ShardView) (g : List IndexDefinition → List IndexDefinition) (ds : List IndexDefinition) (ss : List ShardView)
    → ((s : ShardView) → (f s).definitions ≡ g s.definitions) → HaveRows ds ss → HaveRows (g ds) (map f ss)
changed_rows f g ds [] e h k x lt = absurd (omega arith)
changed_rows f g ds (s ∷ ss) e h zero x lt = e s ∙ ap g (h zero [] (omega arith))
changed_rows f g ds (s ∷ ss) e h (suc k) x lt = changed_rows f g ds ss e (λ k x lt. h (suc k) x (omega arith)) k x (omega arith)

pub rows_with : (d : IndexDefinition) (ds : List IndexDefinition) (ss : List ShardView) → HaveRows ds ss → HaveRows (with_definition d ds) (map (with_index d) ss)
rows_with d ds ss h = changed_rows (with_index d) (with_definition d) ds ss (λ s. refl) h

pub rows_without : (ddoc name : List ℕ) (ds : List IndexDefinition) (ss : List ShardView) → HaveRows ds ss → HaveRows (without_definition ddoc name ds) (map (shard_without ddoc name) ss)
rows_without ddoc name ds ss h = changed_rows (shard_without ddoc name) (without_definition ddoc name) ds ss (λ s. refl) h

-- ---- shards without documents

pub no_rows : (n : ℕ) → HaveRows [] (replicate n empty_shard)
no_rows zero k x lt = absurd (omega arith)
no_rows (suc n) zero x lt = refl
no_rows (suc n) (suc k) x lt = no_rows n k x (omega arith)

pub each_empty : (n i : ℕ) (s : ShardView) → slice_get (replicate n empty_shard) i ≡ Some s → s.documents ≡ finite.empty
each_empty zero i s at = absurd cc
each_empty (suc n) zero s at = ap (λ (t : ShardView). t.documents) (sym (ap (λ o. unwrap_or o s) at))
each_empty (suc n) (suc i) s at = each_empty n i s at

-- ---- a state whose shards are changed in their indexes alone

abbrev pub Same : (ShardView → ShardView) → Type 0
Same f = (s : ShardView) → (f s).documents ≡ s.documents

changed_at : (f : ShardView → ShardView) → Same f → (hs : Histories) (o : Option ShardView) (x : ShardView) → option_map f o ≡ Some x
    → ((s : ShardView) → o ≡ Some s → StandFor s.documents hs) → StandFor x.documents hs
changed_at f same hs None x at each = absurd cc
changed_at f same hs (Some s) x at each = subst (λ ds. StandFor ds hs) (sym (same s) ∙ ap (λ (t : ShardView). t.documents) (ap (λ o. unwrap_or o x) at)) (each s refl)

pub still_dealt : (place : Placing) (f : ShardView → ShardView) (ss : List ShardView) (hs : Histories) → Same f → ShardsStandFor place ss hs → ShardsStandFor place (map f ss) hs
still_dealt place f ss hs same st =
    let long : length ss ≡ length (map f ss) = sym (length-map ss f) in
    record {
      placed = λ id h at. subst (λ n. place id n < n) long (st.placed id h at);
      each = λ i x at. subst (λ n. StandFor x.documents (histories_on place n i hs)) long
          (changed_at f same (histories_on place (length ss) i hs) (slice_get ss i) x (sym (slice_get-map f ss i) ∙ at) (st.each i));
    }

pub holds_with : (place : Placing) (d : IndexDefinition) (s : StateView) (w : World) → StateStandsFor place s w → StateStandsFor place (state_with d s) (record w { indexes = with_definition d w.indexes })
holds_with place d s w h = record {
  name = h.name;
  documents = still_dealt place (with_index d) s.shards w.docs (λ _. refl) h.documents;
  indexes = ap (with_definition d) h.indexes;
  rows = rows_with d w.indexes s.shards h.rows;
  counter = h.counter;
  objects = h.objects;
}

pub holds_without : (place : Placing) (ddoc name : List ℕ) (s : StateView) (w : World) → StateStandsFor place s w
    → StateStandsFor place (state_without ddoc name s) (record w { indexes = without_definition ddoc name w.indexes })
holds_without place ddoc name s w h = record {
  name = h.name;
  documents = still_dealt place (shard_without ddoc name) s.shards w.docs (λ _. refl) h.documents;
  indexes = ap (without_definition ddoc name) h.indexes;
  rows = rows_without ddoc name w.indexes s.shards h.rows;
  counter = h.counter;
  objects = h.objects;
}

-- a state stands also for the world with an equal list of indexes
pub holds_same : (place : Placing) (ds : List IndexDefinition) (s : StateView) (w : World) → ds ≡ w.indexes → StateStandsFor place s w → StateStandsFor place s (record w { indexes = ds })
holds_same place ds s w e h = record {
  name = h.name;
  documents = h.documents;
  indexes = h.indexes ∙ sym e;
  rows = subst (λ ds. HaveRows ds s.shards) (sym e) h.rows;
  counter = h.counter;
  objects = h.objects;
}

-- ---- dropping an index that does not exist

kept_if : (ddoc name : List ℕ) (d : IndexDefinition) (ds : List IndexDefinition) → (is_some (definition_at ddoc name ds) ≡ false → without_definition ddoc name ds ≡ ds)
    → (b : Bool) → is_some (cond b (Some d) (definition_at ddoc name ds)) ≡ false → cond b ds (d ∷ without_definition ddoc name ds) ≡ d ∷ ds
kept_if ddoc name d ds more true h = absurd cc
kept_if ddoc name d ds more false h = ap (λ ds. d ∷ ds) (more h)

pub none_dropped : (ddoc name : List ℕ) (ds : List IndexDefinition) → is_some (definition_at ddoc name ds) ≡ false → without_definition ddoc name ds ≡ ds
none_dropped ddoc name [] h = refl
none_dropped ddoc name (d ∷ ds) h = kept_if ddoc name d ds (none_dropped ddoc name ds) (is_named ddoc name d) h

-- ---- a definition that was not read

pub not_read : (w : World) (e : IndexError) (r : Result IndexDefinition IndexError) (x : Refusal) → ReadsAs (λ d. d) (Err e) r → fault_of (refusal_of_index e) ≡ Refused x
    → (create_answer w r ≡ refused x) × (world_defined w r ≡ w)
not_read w Shape r x g is = (ap (create_answer w) g ∙ ap refused (refusal_is x is), ap (world_defined w) g)
  where
    refusal_is : (x : Refusal) → Refused WrongShape ≡ Refused x → WrongShape ≡ x
    refusal_is x e = ap (λ f. refusal_in x f) e
not_read w Mixed r x g is = (ap (create_answer w) g ∙ ap refused (refusal_is x is), ap (world_defined w) g)
  where
    refusal_is : (x : Refusal) → Refused MixedSort ≡ Refused x → MixedSort ≡ x
    refusal_is x e = ap (λ f. refusal_in x f) e
not_read w NoMemory r x g is = absurd cc
