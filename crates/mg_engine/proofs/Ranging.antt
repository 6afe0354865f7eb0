-- The documents before an id, on one shard and on all.
use Rattle.std.proofs.Common.{◌≡◌, ◌∙◌, ℕ, List, [], ◌∷◌, Bool, true, false, Option, Some, None, cond, is_gt, is_lt, length, map, refl, ap, sym}
use Rattle.std.proofs.lemmas.List.{length-reverse}
use Rattle.std.proofs.lemmas.List.Sorted.{length_permutation}
use Rattle.std.specs.Cmp.Lexicographic.{slice_cmp}
use Rattle.std.specs.FinMap.{entries}
use Rattle.std.specs.List.{cons_option, filter, filter_map}
use Rattle.std.specs.Ordering.{nat_cmp}
use Rattle.mg_collate.specs.declared.direction.Direction.{Direction}
use Rattle.mg_collate.specs.declared.direction.Direction.TheVariants.{Asc, Desc}
use Rattle.mg_merge.specs.Merged.{joined}
use Rattle.mg_query.proofs.Dealt.{dealt_by}
use Rattle.mg_revtree.specs.History.{Paths}
use Rattle.mg_shard.specs.Dealt.{Placing, ShardsStandFor}
use Rattle.mg_shard.specs.Documents.{KeptDocument, KeptDocuments, doc_entry, docs_of}
use Rattle.mg_shard.specs.Histories.{Histories, ServedDocument, served_entry}
use Rattle.mg_shard.specs.Shard.{ShardView}
use Rattle.mg_pages.specs.Reading.{beyond}
use Rattle.mg_shard.proofs.Standing.{same_docs}
use Rattle.mg_scan.proofs.Entries.{filter_map-reverse}
use Rattle.mg_engine.specs.Counted.{counted_before}
use Rattle.mg_engine.specs.Listing.{comes_before, count_before, opposite}
use Rattle.mg_engine.proofs.Counting.{joined_length}

-- ---- a filter before or after a map

-- the value, if the test holds of it
abbrev kept_if : {Y : Type 0} → (Y → Bool) → Option Y → Option Y
kept_if p None = None
kept_if p (Some y) = cond (p y) (Some y) None

kept_some : {Y : Type 0} (b : Bool) (y : Y) (rest : List Y) → cond b (y ∷ rest) rest ≡ cons_option (cond b (Some y) None) rest
kept_some true y rest = refl
kept_some false y rest = refl

kept_step : {Y : Type 0} (p : Y → Bool) (o : Option Y) (rest : List Y) → filter p (cons_option o rest) ≡ cons_option (kept_if p o) (filter p rest)
kept_step p None rest = refl
kept_step p (Some y) rest = kept_some (p y) y (filter p rest)

-- to filter what a map gives is to map to what passes
filter_after : {X Y : Type 0} (p : Y → Bool) (f : X → Option Y) (xs : List X) → filter p (filter_map f xs) ≡ filter_map (λ x. kept_if p (f x)) xs
filter_after p f [] = refl
filter_after p f (x ∷ xs) = kept_step p (f x) (filter_map f xs) ∙ ap (cons_option (kept_if p (f x))) (filter_after p f xs)

-- ---- one shard

module _ (b : List ℕ → Bool) where
  entry_step : (e : List ℕ × KeptDocument) (rest : List (List ℕ × KeptDocument)) (t : Bool) → b e.0 ≡ t
      → filter_map doc_entry (cond t (e ∷ rest) rest) ≡ cons_option (kept_if (λ d. b d.0) (doc_entry e)) (filter_map doc_entry rest)
  entry_step (id, (tree, None)) rest true is = refl
  entry_step (id, (tree, None)) rest false is = refl
  entry_step (id, (tree, Some v)) rest true is =
      let d : ServedDocument = (id, v) in ap (λ c. cons_option (cond c (Some d) None) (filter_map doc_entry rest)) (sym is)
  entry_step (id, (tree, Some v)) rest false is =
      let d : ServedDocument = (id, v) in ap (λ c. cons_option (cond c (Some d) None) (filter_map doc_entry rest)) (sym is)

  -- the served ones among the documents of some ids are the documents of these ids among the served ones
  filter_before : (es : List (List ℕ × KeptDocument)) → filter_map doc_entry (filter (λ e. b e.0) es) ≡ filter (λ d. b d.0) (filter_map doc_entry es)
  filter_before [] = refl
  filter_before (e ∷ es) =
      entry_step e (filter (λ x. b x.0) es) (b e.0) refl
      ∙ ap (cons_option (kept_if (λ d. b d.0) (doc_entry e))) (filter_before es)
      ∙ sym (kept_step (λ d. b d.0) (doc_entry e) (filter_map doc_entry es))

-- the documents that come after an id in the other direction are those that come before it
pub on_shard : (direction : Direction) (start : List ℕ) (ds : KeptDocuments)
    → length (filter_map doc_entry (beyond (opposite direction) (λ e. slice_cmp nat_cmp start e.0) (entries ds))) ≡ length (filter (λ d. comes_before direction start d.0) (docs_of ds))
on_shard Asc start ds =
    let p = λ (id : List ℕ). is_gt (slice_cmp nat_cmp start id) in
    ap length (filter_map-reverse doc_entry (filter (λ e. p e.0) (entries ds))) ∙ length-reverse (filter_map doc_entry (filter (λ e. p e.0) (entries ds)))
    ∙ ap length (filter_before p (entries ds))
on_shard Desc start ds = ap length (filter_before (λ id. is_lt (slice_cmp nat_cmp start id)) (entries ds))

-- ---- all shards

-- the shards together have as many documents before an id as the histories
pub before_all : (place : Placing) (direction : Direction) (start : List ℕ) (shards : List ShardView) (hs : Histories) → ShardsStandFor place shards hs
    → counted_before direction start shards ≡ count_before direction (Some start) hs
before_all place direction start shards hs stands =
    let p = λ (d : ServedDocument). comes_before direction start d.0 in
    let listed = λ (ds : KeptDocuments). filter p (docs_of ds) in
    let g = λ (e : List ℕ × Paths). kept_if p (served_entry e) in
    sym (joined_length listed shards)
    ∙ length_permutation (filter_map g (entries hs)) (joined (map (λ s. listed s.documents) shards))
    (dealt_by g listed (λ ds ks st. ap (filter p) (same_docs ds ks st) ∙ filter_after p served_entry (entries ks)) place shards hs stands)
    ∙ ap length (sym (filter_after p served_entry (entries hs)))
