-- The documents of all shards, counted.
use Rattle.std.proofs.Common.{◌≡◌, ◌∙◌, ℕ, ◌+◌, ◌<◌, ◌≤◌, List, [], ◌∷◌, Global, get_or, length, length-append, map, take, refl, ap, sym}
use Rattle.std.proofs.lemmas.List.{take_all}
use Rattle.std.proofs.lemmas.List.Sorted.{length_permutation}
use Rattle.std.proofs.lemmas.List.Sums.{sum_by-cons, sum_by_more}
use Rattle.std.specs.Arc.{arc_value}
use Rattle.std.specs.declared.sync.Arc.{Arc}
use Rattle.std.specs.List.{sum_by}
use Rattle.mg_merge.specs.Merged.{joined}
use Rattle.mg_query.proofs.Dealt.{dealt, deleted_dealt}
use Rattle.mg_shard.specs.Dealt.{Placing, ShardsStandFor}
use Rattle.mg_shard.specs.Documents.{KeptDocuments, deleted_of, docs_of}
use Rattle.mg_shard.specs.Histories.{Histories, deleted_documents, served_documents}
use Rattle.mg_shard.specs.Shard.{ShardView, shards_view}
use Rattle.mg_engine.specs.Counted.{deleted_counted, docs_counted}
use Rattle.mg_engine.specs.Questions.{doc_count, doc_del_count}

pub joined_length : {D : Type 0} (listed : KeptDocuments → List D) (shards : List ShardView) → length (joined (map (λ s. listed s.documents) shards)) ≡ sum_by (λ s. length (listed s.documents)) shards
joined_length listed [] = refl
joined_length listed (s ∷ shards) =
    length-append (listed s.documents) (joined (map (λ s. listed s.documents) shards)) ∙ ap (λ n. length (listed s.documents) + n) (joined_length listed shards)
    ∙ sym (sum_by-cons (λ s. length (listed s.documents)) s shards)

-- the shards together have as many documents that are not deleted as the histories
pub docs_all : (place : Placing) (shards : List ShardView) (hs : Histories) → ShardsStandFor place shards hs → docs_counted shards ≡ doc_count hs
docs_all place shards hs stands = sym (joined_length docs_of shards) ∙ length_permutation (served_documents hs) (joined (map (λ s. docs_of s.documents) shards)) (dealt place shards hs stands)

-- the shards together have as many deleted documents as the histories
pub deleted_all : (place : Placing) (shards : List ShardView) (hs : Histories) → ShardsStandFor place shards hs → deleted_counted shards ≡ doc_del_count hs
deleted_all place shards hs stands = sym (joined_length deleted_of shards) ∙ length_permutation (deleted_documents hs) (joined (map (λ s. deleted_of s.documents) shards)) (deleted_dealt place shards hs stands)

-- a sum over what shards hold is a sum over the shards that are shared
pub counted_shared : (f : ShardView → ℕ) (shards : List (Arc ShardView Global)) → sum_by f (shards_view shards) ≡ sum_by (λ a. f (arc_value a)) shards
counted_shared f [] = refl
counted_shared f (a ∷ shards) =
    sum_by-cons f (arc_value a) (shards_view shards) ∙ ap (λ n. f (arc_value a) + n) (counted_shared f shards) ∙ sym (sum_by-cons (λ (x : Arc ShardView Global). f (arc_value x)) a shards)

-- the sum of all that were passed is the whole sum
pub all_counted : (f : ShardView → ℕ) (shards : List (Arc ShardView Global)) (count i : ℕ) → count ≡ sum_by (λ a. f (arc_value a)) (take i shards) → length shards ≤ i → count ≡ sum_by f (shards_view shards)
all_counted f shards count i is all = is ∙ ap (sum_by (λ a. f (arc_value a))) (take_all i shards all) ∙ sym (counted_shared f shards)

-- one more shard is counted
pub one_counted : (f : ShardView → ℕ) (shards : List (Arc ShardView Global)) (count i : ℕ) (x : Arc ShardView Global) → count ≡ sum_by (λ a. f (arc_value a)) (take i shards) → i < length shards → x ≡ get_or shards i x
    → count + f (arc_value x) ≡ sum_by (λ a. f (arc_value a)) (take (i + 1) shards)
one_counted f shards count i x is less there =
    ap (λ n. n + f (arc_value x)) is ∙ ap (λ y. sum_by (λ a. f (arc_value a)) (take i shards) + f (arc_value y)) there ∙ sym (sum_by_more (λ a. f (arc_value a)) shards i x less)
