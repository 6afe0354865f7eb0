-- Slots that are filled and emptied, and lists that grow by one item per shard.
use Rattle.std.proofs.Common.{◌≡◌, ℕ, zero, suc, ◌+◌, ◌<◌, List, [], ◌∷◌, ◌++◌, map, length, take, get_or, set, Option, Some, None, slice_get, refl, sym, ap, ap₂, ◌∙◌, subst, add-one, arith}
use Rattle.std.specs.Arc.{arc_value}
use Rattle.std.specs.List.{AllZip}
use Rattle.std.specs.declared.sync.Arc.{Arc}
use Rattle.std.specs.declared.vec.Vec.{Vec}
use Rattle.std.specs.declared.alloc.Global.{Global}
use Rattle.mg_shard.specs.Shard.{shards_view, ShardView}
use Rattle.mg_scan.specs.Hit.{AreHitsOf, hit_rows}
use Rattle.mg_scan.specs.Search.{found_by}
use Rattle.mg_scan.specs.Worked.{AllSlots, AreHitsFoundAt, AreHitsFound}
use Rattle.mg_scan.specs.declared.hit.Hit.{Hit}
use Rattle.mg_scan.specs.declared.search.Search.{Search}

pub get-map : {A B : Type 0} (f : A → B) (xs : List A) (i : ℕ) (x : A) → i < length xs → x ≡ get_or xs i x → slice_get (map f xs) i ≡ Some (f x)
get-map f [] i x less is = absurd (omega arith)
get-map f (y ∷ ys) zero x less is = ap (λ z. Some (f z)) (sym is)
get-map f (y ∷ ys) (suc i) x less is = get-map f ys i x (omega arith) is

pub some_is : {A : Type 0} (x y : A) → Some x ≡ Some y → x ≡ y
some_is x y e = cc

-- the hits that are found in the shard at place i are those of the i-th shard
pub answers : (search : Search) (shards : List (Arc ShardView Global)) (i : ℕ) (a : Arc ShardView Global) (s : ShardView) (hits : List Hit) → i < length shards → a ≡ get_or shards i a → s ≡ arc_value a
    → AreHitsFound search s hits → AreHitsFoundAt search (shards_view shards) i hits
answers search shards i a s hits less is same given =
    record { gives = λ t e. subst (λ (x : ShardView). AreHitsFound search x hits) (same ∙ some_is (arc_value a) t (sym (get-map arc_value shards i a less is) ∙ e)) given }

-- if P holds of a new item and of each item of a list, it holds of each item once the new one is set in the list
pub get-set : {A : Type 0} (P : ℕ → A → Type 0) (xs : List A) (at : ℕ) (a : A) → P at a → ((i : ℕ) (x : A) → slice_get xs i ≡ Some x → P i x) → (i : ℕ) (x : A) → slice_get (set xs at a) i ≡ Some x → P i x
get-set P [] at a here all i x e = absurd cc
get-set P (y ∷ ys) zero a here all zero x e = subst (P zero) (cc (e)) here
get-set P (y ∷ ys) zero a here all (suc i) x e = all (suc i) x e
get-set P (y ∷ ys) (suc at) a here all zero x e = all zero x e
get-set P (y ∷ ys) (suc at) a here all (suc i) x e = get-set (λ k z. P (suc k) z) ys at a here (λ k z f. all (suc k) z f) i x e

abbrev Fits : Search → List ShardView → ℕ → Option (Vec Hit Global) → Type 0
Fits search shards i None = Unit {0}
Fits search shards i (Some v) = AreHitsFoundAt search shards i v.items

to_fits : (search : Search) (shards : List ShardView) (slots : List (Option (Vec Hit Global))) → AllSlots search shards slots → (i : ℕ) (o : Option (Vec Hit Global)) → slice_get slots i ≡ Some o → Fits search shards i o
to_fits search shards slots h i None e = tt
to_fits search shards slots h i (Some v) e = h i v e

pub slots-set : (search : Search) (shards : List ShardView) (slots : List (Option (Vec Hit Global))) (at : ℕ) (v : Vec Hit Global) → AllSlots search shards slots → AreHitsFoundAt search shards at v.items → AllSlots search shards (set slots at (Some v))
slots-set search shards slots at v h here i w e = get-set (Fits search shards) slots at (Some v) here (to_fits search shards slots h) i (Some w) e

pub slots-unset : (search : Search) (shards : List ShardView) (slots : List (Option (Vec Hit Global))) (at : ℕ) → AllSlots search shards slots → AllSlots search shards (set slots at None)
slots-unset search shards slots at h i w e = get-set (Fits search shards) slots at None tt (to_fits search shards slots h) i (Some w) e

snoc_none : (slots : List (Option (Vec Hit Global))) (i : ℕ) (w : Vec Hit Global) → slice_get (slots ++ None ∷ []) i ≡ Some (Some w) → slice_get slots i ≡ Some (Some w)
snoc_none [] zero w e = absurd cc
snoc_none [] (suc i) w e = e
snoc_none (y ∷ ys) zero w e = e
snoc_none (y ∷ ys) (suc i) w e = snoc_none ys i w e

pub slots-snoc : (search : Search) (shards : List ShardView) (slots : List (Option (Vec Hit Global))) → AllSlots search shards slots → AllSlots search shards (slots ++ None ∷ [])
slots-snoc search shards slots h i w e = h i w (snoc_none slots i w e)

-- ---- lists with one item per shard

pub length-view : (shards : List (Arc ShardView Global)) → length (shards_view shards) ≡ length shards
length-view [] = refl
length-view (s ∷ shards) = ap (λ n. suc n) (length-view shards)

pub zip_more : {A B : Type 0} (R : A → B → Type 0) (xs : List A) (ys : List B) (i : ℕ) (y : B) → i < length xs → AllZip R (take i xs) ys → ((x : A) → slice_get xs i ≡ Some x → R x y)
    → AllZip R (take (suc i) xs) (ys ++ y ∷ [])
zip_more R [] ys i y less h here = absurd (omega arith)
zip_more R (x ∷ xs) [] zero y less h here = (here x refl, tt)
zip_more R (x ∷ xs) (z ∷ ys) zero y less h here = absurd h
zip_more R (x ∷ xs) [] (suc i) y less h here = absurd h
zip_more R (x ∷ xs) (z ∷ ys) (suc i) y less h here = (h.0, zip_more R xs ys i y (omega arith) h.1 here)

-- the lists so far, and the list of one more shard
pub lists-more : (search : Search) (shards : List (Arc ShardView Global)) (all : List (Vec Hit Global)) (i : ℕ) (v : Vec Hit Global) → i < length shards
    → AllZip (λ s w. AreHitsFound search s w.items) (take i (shards_view shards)) all → AreHitsFoundAt search (shards_view shards) i v.items
    → AllZip (λ s w. AreHitsFound search s w.items) (take (i + 1) (shards_view shards)) (all ++ v ∷ [])
lists-more search shards all i v less so here =
    rw add-one (zip_more (λ s (w : Vec Hit Global). AreHitsFound search s w.items) (shards_view shards) all i v (omega (arith, less, length-view shards)) so here.gives)

take_all : {A : Type 0} (xs : List A) (n : ℕ) → n ≡ length xs → take n xs ≡ xs
take_all [] zero e = refl
take_all [] (suc n) e = refl
take_all (x ∷ xs) zero e = absurd (omega (arith, e))
take_all (x ∷ xs) (suc n) e = ap (λ ys. x ∷ ys) (take_all xs n (omega (arith, e)))

-- the lists of all shards
pub lists-all : (search : Search) (shards : List (Arc ShardView Global)) (all : List (Vec Hit Global)) (i : ℕ) → i ≡ length shards
    → AllZip (λ s w. AreHitsFound search s w.items) (take i (shards_view shards)) all → AllZip (λ s w. AreHitsFound search s w.items) (shards_view shards) all
lists-all search shards all i e h = subst (λ xs. AllZip (λ s (w : Vec Hit Global). AreHitsFound search s w.items) xs all) (take_all (shards_view shards) i (e ∙ sym (length-view shards))) h

pub zip_rows : (search : Search) (shards : List ShardView) (all : List (Vec Hit Global)) → AllZip (λ s w. AreHitsFound search s w.items) shards all → map (λ w. hit_rows w.items) all ≡ map (found_by search) shards
zip_rows search [] [] h = refl
zip_rows search [] (v ∷ all) h = absurd h
zip_rows search (s ∷ shards) [] h = absurd h
zip_rows search (s ∷ shards) (v ∷ all) h = ap₂ (λ rows lists. rows ∷ lists) h.0.rows (zip_rows search shards all h.1)

pub zip_documents : (search : Search) (shards : List ShardView) (all : List (Vec Hit Global)) → AllZip (λ s w. AreHitsFound search s w.items) shards all → AllZip (λ s w. AreHitsOf s w.items) shards all
zip_documents search [] [] h = tt
zip_documents search [] (v ∷ all) h = absurd h
zip_documents search (s ∷ shards) [] h = absurd h
zip_documents search (s ∷ shards) (v ∷ all) h = (h.0.documents, zip_documents search shards all h.1)
