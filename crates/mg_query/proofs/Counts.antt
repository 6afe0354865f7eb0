-- How many rows each shard hands over for a page.
use Rattle.std.proofs.Common.{◌≡◌, ℕ, suc, ◌+◌, Bool, true, false, cond, List, [], ◌∷◌, ◌++◌, Some, Vec, Global, option_to_list, map, min, drop, take, length, slice_get, refl, sym, ap, ap₂, ◌∙◌, subst, arith}
use lib.Dec.{eqb}
use Rattle.std.specs.FinMap.{entries}
use Rattle.std.specs.List.{AllByRecursion, filter, filter_map, range_with_len}
use Rattle.std.proofs.lemmas.List.{length-map, length-take}
use Rattle.mg_collate.specs.Row.{RowValue}
use Rattle.mg_collate.proofs.Sorting.{all_append}
use Rattle.mg_index.specs.Choice.{is_usable}
use Rattle.mg_index.specs.Definition.{Steps}
use Rattle.mg_merge.specs.Sharding.{Document, rows_of}
use Rattle.mg_normal.specs.Atoms.{atoms_of}
use Rattle.mg_normal.specs.Normal.{IsNormalOf, NormalForm, normal_holds}
use Rattle.mg_range.specs.Laws.{RangesAreComplete}
use Rattle.mg_revtree.specs.History.{Paths}
use Rattle.mg_scan.specs.Hit.{hit_row, hit_rows}
use Rattle.mg_scan.specs.declared.hit.Hit.{Hit}
use Rattle.mg_shard.specs.Dealt.{Placing, ShardsStandFor, histories_on}
use Rattle.mg_shard.specs.Documents.{StandFor, docs_of}
use Rattle.mg_shard.specs.Histories.{Histories}
use Rattle.mg_shard.specs.Rows.{row_of}
use Rattle.mg_shard.specs.Shard.{ShardView}
use Rattle.mg_shard.proofs.Standing.{same_docs}
use Rattle.mg_query.specs.Page.{Candidate, candidate_of, candidates_of, candidates_found, is_asked, row_by}
use Rattle.mg_query.specs.Paged.{count_handed, counts_handed}
use Rattle.mg_query.specs.Lent.{shard_rows}
use Rattle.mg_query.specs.Query.{Query}
use Rattle.mg_query.specs.Read.{IsReadFor}
use Rattle.mg_query.specs.declared.reads.Reads.{Reads}
use Rattle.mg_query.specs.Served.{HaveIdsAndRevs, HasIdAndRev}
use Rattle.mg_query.proofs.Answered.{all_found_by_row, follows, is_wanted_by}
use Rattle.mg_query.proofs.Candidates.{document, documents_of, shown_first}
use Rattle.mg_query.proofs.Dealt.{entries_kept}
use Rattle.mg_query.proofs.Gathered.{all_found, listed_sorted, rows_asked}
use Rattle.mg_query.proofs.Handed.{shard_listed}

-- ---- if all documents have an id and a revision, those of a shard have

all_split : {X : Type 0} (P : X → Type 0) (xs ys : List X) → AllByRecursion P (xs ++ ys) → AllByRecursion P xs × AllByRecursion P ys
all_split P [] ys h = (tt, h)
all_split P (x ∷ xs) ys h = let more = all_split P xs ys h.1 in ((h.0, more.0), more.1)

whole_if : (b : Bool) (e : List ℕ × Paths) (es : List (List ℕ × Paths)) → HaveIdsAndRevs (option_to_list (candidate_of e)) → HaveIdsAndRevs (filter_map candidate_of es) → HaveIdsAndRevs (filter_map candidate_of (cond b (e ∷ es) es))
whole_if false e es h k = k
whole_if true e es h k =
    subst HaveIdsAndRevs (sym (shown_first candidate_of e es (candidate_of e) refl)) (all_append HasIdAndRev (option_to_list (candidate_of e)) (filter_map candidate_of es) h k)

whole_kept : (kept : List ℕ × Paths → Bool) (es : List (List ℕ × Paths)) → HaveIdsAndRevs (filter_map candidate_of es) → HaveIdsAndRevs (filter_map candidate_of (filter kept es))
whole_kept kept [] h = tt
whole_kept kept (e ∷ es) h =
    let parts = all_split HasIdAndRev (option_to_list (candidate_of e)) (filter_map candidate_of es) (subst HaveIdsAndRevs (shown_first candidate_of e es (candidate_of e) refl) h) in
    whole_if (kept e) e (filter kept es) parts.0 (whole_kept kept es parts.1)

whole_on : (place : Placing) (n i : ℕ) (hs : Histories) → HaveIdsAndRevs (candidates_of hs) → HaveIdsAndRevs (candidates_of (histories_on place n i hs))
whole_on place n i hs h =
    subst (λ es. HaveIdsAndRevs (filter_map candidate_of es)) (sym (entries_kept hs (λ id. eqb (place id n) i))) (whole_kept (λ e. eqb (place e.0 n) i) (entries hs) h)

-- ---- the numbers

-- lists of hits have the lengths of the lists of their rows
pub sizes : (rows : ShardView → List RowValue) (lists : List (Vec Hit Global)) (shards : List ShardView) → map (λ v. hit_rows v.items) lists ≡ map rows shards
    → map (λ (v : Vec Hit Global). length v.items) lists ≡ map (λ s. length (rows s)) shards
sizes rows [] [] e = refl
sizes rows [] (s ∷ shards) e = absurd cc
sizes rows (v ∷ lists) [] e = absurd cc
sizes rows (v ∷ lists) (s ∷ shards) e =
    let here : hit_rows v.items ≡ rows s = cc in
    let rest : map (λ (w : Vec Hit Global). hit_rows w.items) lists ≡ map rows shards = cc in
    ap₂ (λ n ns. n ∷ ns) (sym (length-map v.items hit_row) ∙ ap length here) (sizes rows lists shards rest)

module _ (complete : RangesAreComplete) (q : Query) (columns : List Steps) (normal : NormalForm) (is : IsNormalOf q.selector normal) (usable : is_usable (atoms_of q.selector) q.sort columns ≡ true) where
  -- a shard lists as many rows as the query finds of its documents, but at most skip + limit
  shard_count : (s : ShardView) (on : Histories) → StandFor s.documents on → HaveIdsAndRevs (candidates_of on) → length (shard_rows normal columns q s) ≡ count_handed columns q on
  shard_count s on stands whole =
      let most = q.skip + q.limit in
      let asked : Document → Bool = λ d. normal_holds normal (Some d.1) in
      let rows = rows_asked asked (row_of columns) (is_wanted_by q columns) in
      let cs = candidates_of on in
      let docs : docs_of s.documents ≡ map document cs = same_docs s.documents on stands ∙ sym (documents_of (entries on)) in
      let each = all_found_by_row complete q columns (normal_holds normal) is.meaning usable cs whole in
      ap length
      (shard_listed q columns normal is s
      ∙ ap (take most)
      (listed_sorted asked (row_of columns) (is_wanted_by q columns) q.direction (docs_of s.documents)
      ∙ ap (rows_of q.direction rows) docs
      ∙ all_found (row_by columns) document (is_asked q) (follows q) rows q.direction cs each))
      ∙ length-take most (map (row_by columns) (candidates_found columns q cs))
      ∙ ap (min most) (length-map (candidates_found columns q cs) (row_by columns))

  each_count : (place : Placing) (n k : ℕ) (hs : Histories) (shards : List ShardView) → ((i : ℕ) (s : ShardView) → slice_get shards i ≡ Some s → StandFor s.documents (histories_on place n (k + i) hs)) → HaveIdsAndRevs (candidates_of hs)
      → map (λ s. length (shard_rows normal columns q s)) shards ≡ map (λ i. count_handed columns q (histories_on place n i hs)) (range_with_len k (length shards))
  each_count place n k hs [] each whole = refl
  each_count place n k hs (s ∷ shards) each whole =
      let here : k + 0 ≡ k = omega arith in
      let first = subst (λ j. StandFor s.documents (histories_on place n j hs)) here (each 0 s refl) in
      ap₂ (λ m ms. m ∷ ms) (shard_count s (histories_on place n k hs) first (whole_on place n k hs whole))
      (each_count place n (k + 1) hs shards (λ i t e. let m : k + suc i ≡ (k + 1) + i = omega arith in subst (λ j. StandFor t.documents (histories_on place n j hs)) m (each (suc i) t e)) whole)

  -- how many rows each shard lists
  pub listed_counts : (place : Placing) (shards : List ShardView) (hs : Histories) → ShardsStandFor place shards hs → HaveIdsAndRevs (candidates_of hs)
      → map (λ s. length (shard_rows normal columns q s)) shards ≡ counts_handed columns q place (length shards) hs
  listed_counts place shards hs stands whole =
      let each = λ (i : ℕ) (s : ShardView) (h : slice_get shards i ≡ Some s). let here : i ≡ 0 + i = omega arith in subst (λ j. StandFor s.documents (histories_on place (length shards) j hs)) here (stands.each i s h) in
      each_count place (length shards) 0 hs shards each whole

-- ---- what is read

-- as many hits are shown as candidates with their rows
pub as_many : (columns : List Steps) (skip : ℕ) (hits : List Hit) (cs : List Candidate) → hit_rows (drop skip hits) ≡ map (row_by columns) cs → length (drop skip hits) ≡ length cs
as_many columns skip hits cs e = sym (length-map (drop skip hits) hit_row) ∙ ap length e ∙ length-map cs (row_by columns)

-- what is read for equal numbers is the same
pub read_same : (d e : Bool) (m n : ℕ) (ms ns : List ℕ) (r : Reads) → d ≡ e → m ≡ n → ms ≡ ns → IsReadFor d m ms r → IsReadFor e n ns r
read_same d e m n ms ns r x y z h =
    subst (λ b. IsReadFor b n ns r) x (subst (λ k. IsReadFor d k ns r) y (subst (λ ks. IsReadFor d m ks r) z h))
