-- Shards while a bulk is applied: what holds of the draft at each position.
use Rattle.std.proofs.Common.{◌≡◌, ℕ, zero, suc, ◌<◌, List, [], ◌∷◌, ◌++◌, Option, Some, None, option_map, unwrap_or, length, get_or, map, set, slice_get, take, refl, sym, ap, ◌∙◌, subst, arith}
use Rattle.std.proofs.lemmas.List.{length-map}
use Rattle.std.proofs.lemmas.Option.{slice_get-map}
use Rattle.mg_shard.specs.Dealt.{Placing, DraftsStandFor, ShardStandsFor, ShardsStandFor}
use Rattle.mg_shard.specs.Draft.{DraftStandsFor, DraftView}
use Rattle.mg_shard.specs.Histories.{Histories}
use Rattle.mg_shard.specs.Laws.{DraftsBecomeShards, ShardsBecomeDrafts}
use Rattle.mg_shard.specs.Shard.{ShardView, shards_view}
use Rattle.mg_shard.proofs.Touched.{untouched}
use Rattle.mg_engine.specs.Stands.{definitions_of}
use Rattle.std.specs.Arc.{arc_value}
use Rattle.std.specs.declared.alloc.Global.{Global}
use Rattle.std.specs.declared.sync.Arc.{Arc}
use Rattle.mg_engine.specs.StateView.{AllFinishAs, before, fresh}

-- ---- one position of a list

pub got_at : {X : Type 0} (xs : List X) (i : ℕ) (x : X) → i < length xs → x ≡ get_or xs i x → slice_get xs i ≡ Some x
got_at [] i x l e = absurd (omega arith)
got_at (y ∷ xs) zero x l e = ap Some (sym e)
got_at (y ∷ xs) (suc i) x l e = got_at xs i x (omega arith) e

pub before-set : (ds : List DraftView) (i : ℕ) (d e : DraftView) → e.shard ≡ (get_or ds i d).shard → i < length ds → before (set ds i e) ≡ before ds
before-set [] i d e h l = refl
before-set (x ∷ ds) zero d e h l = ap (λ s. s ∷ before ds) h
before-set (x ∷ ds) (suc i) d e h l = ap (λ ss. x.shard ∷ ss) (before-set ds i d e h (omega arith))

pub same_number : (ds es : List DraftView) → before ds ≡ before es → length ds ≡ length es
same_number ds es h = sym (length-map ds (λ d. d.shard)) ∙ ap length h ∙ length-map es (λ d. d.shard)

pub nothing : {X : Type 0} (xs : List X) → length xs ≡ 0 → xs ≡ []
nothing [] h = refl
nothing (x ∷ xs) h = absurd (omega arith)

-- the shard at a position
pub shard_at : (xs : List (Arc ShardView Global)) (i : ℕ) (x : Arc ShardView Global) → i < length xs → x ≡ get_or xs i x → slice_get (shards_view xs) i ≡ Some (arc_value x)
shard_at xs i x l e = slice_get-map (λ (a : Arc ShardView Global). arc_value a) xs i ∙ ap (option_map (λ (a : Arc ShardView Global). arc_value a)) (got_at xs i x l e)

-- the first n items of two joined lists are the first list, if it has n items
pub written : {X : Type 0} (xs ys : List X) (n : ℕ) → n ≡ length xs → take n (xs ++ ys) ≡ xs
written [] ys zero h = refl
written [] ys (suc n) h = absurd (omega (arith, h))
written (x ∷ xs) ys zero h = absurd (omega (arith, h))
written (x ∷ xs) ys (suc n) h = ap (λ zs. x ∷ zs) (written xs ys n (omega (arith, h)))

-- ---- drafts before the first edit

pub before-fresh : (shards : List ShardView) → before (map fresh shards) ≡ shards
before-fresh [] = refl
before-fresh (s ∷ shards) = ap (λ ss. s ∷ ss) (before-fresh shards)

fresh_of : (o : Option ShardView) (d : DraftView) → option_map fresh o ≡ Some d → (s : ShardView) × (o ≡ Some s) × (fresh s ≡ d)
fresh_of (Some s) d h = (s, refl, ap (λ o. unwrap_or o d) h)
fresh_of None d h = absurd cc

pub fresh_stand : (place : Placing) (shards : List ShardView) (hs : Histories) → ShardsBecomeDrafts → ShardsStandFor place shards hs → DraftsStandFor place (map fresh shards) hs
fresh_stand place shards hs law st =
    law place shards (map fresh shards) hs (length-map shards fresh)
    (λ i d at. let one = fresh_of (slice_get shards i) d (sym (slice_get-map fresh shards i) ∙ at) in
    (one.0, one.1, λ gs h. subst (λ d. DraftStandsFor d gs) one.2 (untouched one.0.documents gs h)))
    st

-- ---- what drafts leave

pub left_number : (ds : List DraftView) (ss : List ShardView) → AllFinishAs ds ss → length ss ≡ length ds
left_number [] [] h = refl
left_number [] (s ∷ ss) h = absurd h
left_number (d ∷ ds) [] h = absurd h
left_number (d ∷ ds) (s ∷ ss) h = ap suc (left_number ds ss h.1)

left_at : (ds : List DraftView) (ss : List ShardView) → AllFinishAs ds ss → (i : ℕ) (s : ShardView) → slice_get ss i ≡ Some s
    → (d : DraftView) × (slice_get ds i ≡ Some d) × ((gs : Histories) → DraftStandsFor d gs → ShardStandsFor s gs)
left_at [] [] h i s at = absurd cc
left_at [] (s ∷ ss) h i t at = absurd h
left_at (d ∷ ds) [] h i s at = absurd h
left_at (d ∷ ds) (s ∷ ss) h zero t at = (d, refl, λ gs st. subst (λ t. ShardStandsFor t gs) (ap (λ o. unwrap_or o s) at) (h.0.stands gs st))
left_at (d ∷ ds) (s ∷ ss) h (suc i) t at = left_at ds ss h.1 i t at

pub left_stand : (place : Placing) (ds : List DraftView) (ss : List ShardView) (hs : Histories) → DraftsBecomeShards → AllFinishAs ds ss → DraftsStandFor place ds hs → ShardsStandFor place ss hs
left_stand place ds ss hs law h st = law place ds ss hs (left_number ds ss h) (left_at ds ss h) st

pub left_definitions : (ds : List DraftView) (ss : List ShardView) → AllFinishAs ds ss → definitions_of ss ≡ definitions_of (before ds)
left_definitions [] [] h = refl
left_definitions [] (s ∷ ss) h = absurd h
left_definitions (d ∷ ds) [] h = absurd h
left_definitions (d ∷ ds) (s ∷ ss) h = ap (λ x. x ∷ definitions_of ss) h.0.definitions ∙ ap (λ xs. d.shard.definitions ∷ xs) (left_definitions ds ss h.1)
