-- What shards hand over for a page: which rows, in which order, and how many.
use Rattle.std.proofs.Common.{◌≡◌, ℕ, suc, ◌+◌, ◌≤◌, min, Bool, true, false, not, ◌&&◌, cond, Ordering, List, [], ◌∷◌, ◌++◌, Option, Some, None, All, Vec, Global, option_map, map, take, drop, length, is_gt, is_some, refl, sym, ap, ap₂, ◌∙◌, subst, arith}
use Rattle.std.specs.List.{AllByRecursion, filter, filter_map, sum}
use Rattle.std.specs.Option.{option_map_or}
use Rattle.std.proofs.lemmas.List.{drop-map, length-append, length-map, length-take}
use Rattle.std.proofs.lemmas.List.Sums.{sum_by-append}
use Rattle.std.proofs.lemmas.List.Elements.{All-from_recursion, All-weaker, filter_agree, recursion_from_All}
use Rattle.mg_value.specs.Value.{item_list}
use Rattle.mg_collate.specs.declared.direction.Direction.{Direction}
use Rattle.mg_collate.specs.Row.{RowValue, directed_order}
use Rattle.mg_collate.specs.Sorted.{IsInOrder, sorted_with, sorted, sorted_rows}
use Rattle.mg_bookmark.specs.Bookmark.{RowPlace}
use Rattle.mg_index.specs.Choice.{is_usable}
use Rattle.mg_index.specs.Definition.{Steps}
use Rattle.mg_merge.specs.Merged.{IsInOrderBy, contents_of, joined, merged, merged_by, order_by}
use Rattle.mg_merge.specs.Work.{WorkView}
use Rattle.mg_merge.specs.Sharding.{Document, rows_of}
use Rattle.mg_merge.proofs.Cuts.{cut_in_order}
use Rattle.mg_merge.proofs.Rows.{by_rows, rows_of_merged}
use Rattle.mg_normal.specs.Atoms.{atoms_of}
use Rattle.mg_normal.specs.Normal.{IsNormalOf, NormalForm, normal_holds}
use Rattle.mg_range.specs.Decided.{decides_of}
use Rattle.mg_range.specs.Laws.{RangesAreComplete}
use Rattle.mg_range.specs.RangeSide.{has_key}
use Rattle.mg_range.specs.Range.{range_of}
use Rattle.mg_scan.specs.Decided.{IsDecidedIn}
use Rattle.mg_scan.specs.Found.{input_of_parts, target_columns}
use Rattle.mg_scan.specs.Hit.{hit_row, hit_rows}
use Rattle.mg_scan.specs.Scan.{first_matches}
use Rattle.mg_scan.specs.Search.{after_of, search_input, found_by}
use Rattle.mg_scan.specs.declared.hit.Hit.{Hit}
use Rattle.mg_scan.specs.declared.search.Search.{Search}
use Rattle.mg_shard.specs.Dealt.{Placing, ShardsStandFor}
use Rattle.mg_shard.specs.Documents.{docs_of}
use Rattle.mg_shard.specs.Histories.{Histories}
use Rattle.mg_shard.specs.Rows.{row_of}
use Rattle.mg_shard.specs.Shard.{ShardView}
use Rattle.mg_query.specs.Plan.{AreFirst, AreOfPage, IsPlanOf, IsSearchOf, rows_asked_of}
use Rattle.mg_query.specs.Page.{candidates_of, source_columns, page_candidates, row_by}
use Rattle.mg_query.specs.Paged.{IsWorkWithin}
use Rattle.mg_query.specs.Lent.{row_at, shard_rows}
use Rattle.mg_query.specs.Query.{Query}
use Rattle.mg_query.specs.Served.{HaveIdsAndRevs, IsInCatalog, source_view}
use Rattle.mg_query.specs.declared.found.Plan.{Plan}
use Rattle.mg_query.proofs.Answered.{is_wanted_by, rows_of_answer}
use Rattle.mg_query.proofs.Gathered.{listed_rows, listed_sorted, lists_in_order, rows_asked}

follows_same : (o : Option RowPlace) (direction : Direction) (r : RowValue)
    → option_map_or (λ p. is_gt (directed_order direction r p)) (option_map row_at o) true ≡ option_map_or (λ p. is_gt (directed_order direction r (p.key, p.id))) o true
follows_same None direction r = refl
follows_same (Some p) direction r = refl

-- ---- numbers

either : {X : Type 0} (b : Bool) (xs ys : List X) (n : ℕ) → length xs ≡ n → length ys ≡ n → length (cond b xs ys) ≡ n
either true xs ys n p q = p
either false xs ys n p q = q

length_inserted : {X : Type 0} (order : X → X → Ordering) (x : X) (ys : List X) → length (sorted_with order x ys) ≡ suc (length ys)
length_inserted order x [] = refl
length_inserted order x (y ∷ ys) = either (is_gt (order x y)) (y ∷ sorted_with order x ys) (x ∷ y ∷ ys) (suc (suc (length ys))) (ap suc (length_inserted order x ys)) refl

length_sorted : {X : Type 0} (order : X → X → Ordering) (xs : List X) → length (sorted order xs) ≡ length xs
length_sorted order [] = refl
length_sorted order (x ∷ xs) = length_inserted order x (sorted order xs) ∙ ap suc (length_sorted order xs)

sum_first : (n : ℕ) (ns : List ℕ) → sum (n ∷ ns) ≡ n + sum ns
sum_first n ns = let e : sum ((n ∷ []) ++ ns) ≡ sum (n ∷ []) + sum ns = sum_by-append (λ (x : ℕ). x) (n ∷ []) ns in omega (arith, e)

length_joined : (lists : List (Vec Hit Global)) → length (joined (contents_of lists)) ≡ sum (map (λ (v : Vec Hit Global). length v.items) lists)
length_joined [] = refl
length_joined (v ∷ lists) =
    length-append v.items (joined (contents_of lists)) ∙ ap (λ n. length v.items + n) (length_joined lists) ∙ sym (sum_first (length v.items) (map (λ (w : Vec Hit Global). length w.items) lists))

-- ---- rows

-- merges of equal lists, up to equal numbers, are equal
pub merged_same : (direction : Direction) (hits : List Hit) (m n : ℕ) (lists others : List (Vec Hit Global)) → hits ≡ merged_by hit_row direction m (contents_of lists) → m ≡ n → lists ≡ others → hits ≡ merged_by hit_row direction n (contents_of others)
merged_same direction hits m n lists others e f g = e ∙ ap₂ (λ k ls. merged_by hit_row direction k (contents_of ls)) f g

-- what the query's search finds in a shard that has the columns of its target
found_at : (q : Query) (a : Plan) (search : Search) → IsPlanOf q a → IsSearchOf q a search → (s : ShardView) → target_columns search.target s.definitions ≡ Some (source_columns (source_view a.source)) → found_by search s ≡ rows_asked_of q a s
found_at q a search asks is s e =
    let columns = source_columns (source_view a.source) in
    let documents = docs_of s.documents in
    ap (λ o. option_map_or (λ cs. first_matches (search_input search cs) documents) o []) e
    ∙ ap₂ (λ normal range. first_matches (input_of_parts normal range (after_of search) search.take search.direction columns) documents) is.normal (is.range ∙ asks.range)
    ∙ ap₂ (λ after count. first_matches (input_of_parts a.normal.now (range_of a.normal.now.atoms columns) after count search.direction columns) documents) (is.after ∙ asks.after) is.take
    ∙ ap (λ direction. first_matches (input_of_parts a.normal.now (range_of a.normal.now.atoms columns) (option_map row_at q.bookmark) (q.skip + q.limit) direction columns) documents) is.direction

found_each : (q : Query) (a : Plan) (search : Search) → IsPlanOf q a → IsSearchOf q a search → (shards : List ShardView) → AllByRecursion (λ s. IsInCatalog s.definitions (source_view a.source)) shards
    → map (found_by search) shards ≡ map (rows_asked_of q a) shards
found_each q a search asks is [] h = refl
found_each q a search asks is (s ∷ shards) h = ap₂ (λ x xs. x ∷ xs) (found_at q a search asks is s (is.target s.definitions h.0)) (found_each q a search asks is shards h.1)

-- what the search finds in shards that have the index
pub found_rows : (q : Query) (a : Plan) (search : Search) → IsPlanOf q a → IsSearchOf q a search → (shards : List ShardView) → All (λ s. IsInCatalog s.definitions (source_view a.source)) shards
    → map (found_by search) shards ≡ map (rows_asked_of q a) shards
found_rows q a search asks is shards listed = found_each q a search asks is shards (recursion_from_All (λ s. IsInCatalog s.definitions (source_view a.source)) shards listed)

-- the first rows of what the search finds in these shards
pub found_first : (q : Query) (a : Plan) (search : Search) → IsPlanOf q a → IsSearchOf q a search → (shards : List ShardView) → All (λ s. IsInCatalog s.definitions (source_view a.source)) shards
    → merged search.direction search.take (map (found_by search) shards) ≡ merged q.direction (q.skip + q.limit) (map (rows_asked_of q a) shards)
found_first q a search asks is shards listed =
    ap₂ (λ direction count. merged direction count (map (found_by search) shards)) is.direction is.take
    ∙ ap (merged q.direction (q.skip + q.limit)) (found_rows q a search asks is shards listed)

both_true : (b d : Bool) → (not b && d) ≡ true → (b ≡ false) × (d ≡ true)
both_true true d e = absurd cc
both_true false d e = (refl, e)

-- if the range decides, it decides in each shard
pub decided_in : (q : Query) (a : Plan) (search : Search) → IsPlanOf q a → IsSearchOf q a search → a.is_decided ≡ true → (shards : List ShardView) → All (λ s. IsInCatalog s.definitions (source_view a.source)) shards
    → All (IsDecidedIn search.target search.normal.now search.range.now) shards
decided_in q a search asks is decides shards listed =
    let columns = source_columns (source_view a.source) in
    let decided = both_true (is_some a.normal.now.rest) (decides_of a.normal.now.atoms columns) (sym asks.decided ∙ decides) in
    All-weaker (λ s. IsInCatalog s.definitions (source_view a.source)) (IsDecidedIn search.target search.normal.now search.range.now)
    (λ s there. record {
      columns = columns;
      there = is.target s.definitions there;
      alone = ap (λ (normal : NormalForm). is_some normal.rest) is.normal ∙ decided.0;
      decides = ap (λ (normal : NormalForm). decides_of normal.atoms columns) is.normal ∙ decided.1;
      bounds = is.range ∙ asks.range ∙ ap (λ (normal : NormalForm). range_of normal.atoms columns) (sym is.normal);
    }) shards listed

-- without the first `skip`, the first hits are those of the page
pub first_passed : (q : Query) (a : Plan) (shards : List ShardView) (hits : List Hit) → AreFirst q a shards hits → AreOfPage q a shards q.skip hits
first_passed q a shards hits first = record { rows = sym (drop-map hit_row q.skip hits) ∙ ap (drop q.skip) first.rows; hits = first.hits }

-- the rows of hits, list by list
contents : (lists : List (Vec Hit Global)) → map (map hit_row) (contents_of lists) ≡ map (λ v. hit_rows v.items) lists
contents [] = refl
contents (v ∷ lists) = ap (λ rows. hit_rows v.items ∷ rows) (contents lists)

-- the rows of a merge of lists with these rows
pub merged_rows : (direction : Direction) (most : ℕ) (hits : List Hit) (lists : List (Vec Hit Global)) (rows : List (List RowValue)) → hits ≡ merged_by hit_row direction most (contents_of lists) → map (λ v. hit_rows v.items) lists ≡ rows
    → hit_rows hits ≡ merged direction most rows
merged_rows direction most hits lists rows merge e =
    ap (map hit_row) merge ∙ rows_of_merged hit_row direction most (contents_of lists) ∙ ap (merged direction most) (contents lists ∙ e)

module _ (q : Query) (columns : List Steps) (normal : NormalForm) (is : IsNormalOf q.selector normal) where
  abbrev most : ℕ
  most = q.skip + q.limit

  abbrev asked_here : Document → Bool
  asked_here d = normal_holds normal (Some d.1)

  abbrev listed_here : List Document → List RowValue
  listed_here ds = listed_rows asked_here (row_of columns) (is_wanted_by q columns) q.direction ds

  pub shard_listed : (s : ShardView) → shard_rows normal columns q s ≡ take most (listed_here (docs_of s.documents))
  shard_listed s =
      ap (take most)
      (filter_agree (λ r. has_key (range_of normal.atoms columns) (item_list r.0) && option_map_or (λ p. is_gt (directed_order q.direction r p)) (option_map row_at q.bookmark) true) (is_wanted_by q columns)
      (λ r. ap₂ ◌&&◌ (ap (λ atoms. has_key (range_of atoms columns) (item_list r.0)) is.atoms) (follows_same q.bookmark q.direction r))
      (sorted_rows q.direction (filter_map (row_of columns) (filter asked_here (docs_of s.documents)))))

  all_listed : (shards : List ShardView) → map (shard_rows normal columns q) shards ≡ map (λ ds. take most (listed_here ds)) (map (λ s. docs_of s.documents) shards)
  all_listed [] = refl
  all_listed (s ∷ shards) = ap₂ (λ rows lists. rows ∷ lists) (shard_listed s) (all_listed shards)

  -- the merged rows without the first `skip` are those of the page, over all documents that the histories serve
  pub rows_merged : RangesAreComplete → is_usable (atoms_of q.selector) q.sort columns ≡ true → (place : Placing) (shards : List ShardView) (hs : Histories) → ShardsStandFor place shards hs → HaveIdsAndRevs (candidates_of hs)
      → drop q.skip (merged q.direction most (map (shard_rows normal columns q) shards)) ≡ map (row_by columns) (page_candidates columns q (candidates_of hs))
  rows_merged complete usable place shards hs stands whole =
      ap (λ lists. drop q.skip (merged q.direction most lists)) (all_listed shards) ∙ rows_of_answer complete q columns (normal_holds normal) is.meaning usable place shards hs stands whole

  shard_in_order : (s : ShardView) → IsInOrder q.direction (shard_rows normal columns q s)
  shard_in_order s =
      let ds = docs_of s.documents in
      let rows = rows_asked asked_here (row_of columns) (is_wanted_by q columns) in
      let same : take most (rows_of q.direction rows ds) ≡ shard_rows normal columns q s = sym (shard_listed s ∙ ap (take most) (listed_sorted asked_here (row_of columns) (is_wanted_by q columns) q.direction ds)) in
      subst (IsInOrder q.direction) same (cut_in_order q.direction most (rows_of q.direction rows ds ∷ []) (lists_in_order q.direction rows (ds ∷ [])) 0 [] (omega arith))

  each_in_order : (lists : List (Vec Hit Global)) (shards : List ShardView) → map (λ v. hit_rows v.items) lists ≡ map (shard_rows normal columns q) shards → AllByRecursion (IsInOrderBy hit_row q.direction) (contents_of lists)
  each_in_order [] shards e = tt
  each_in_order (v ∷ lists) [] e = absurd cc
  each_in_order (v ∷ lists) (s ∷ shards) e =
      let here : hit_rows v.items ≡ shard_rows normal columns q s = cc in
      let rest : map (λ (w : Vec Hit Global). hit_rows w.items) lists ≡ map (shard_rows normal columns q) shards = cc in
      (by_rows hit_row q.direction v.items (subst (IsInOrder q.direction) (sym here) (shard_in_order s)), each_in_order lists shards rest)

  -- the lists that are handed over are in order
  pub handed_in_order : (lists : List (Vec Hit Global)) (shards : List ShardView) → map (λ v. hit_rows v.items) lists ≡ map (shard_rows normal columns q) shards → All (IsInOrderBy hit_row q.direction) (contents_of lists)
  handed_in_order lists shards e = All-from_recursion (IsInOrderBy hit_row q.direction) (contents_of lists) (each_in_order lists shards e)

  shard_at_most : (s : ShardView) → length (shard_rows normal columns q s) ≤ most
  shard_at_most s = let l = ap length (shard_listed s) ∙ length-take most (listed_here (docs_of s.documents)) in omega (arith, l)

  each_at_most : (lists : List (Vec Hit Global)) (shards : List ShardView) → map (λ v. hit_rows v.items) lists ≡ map (shard_rows normal columns q) shards → AllByRecursion (λ n. n ≤ most) (map (λ (v : Vec Hit Global). length v.items) lists)
  each_at_most [] shards e = tt
  each_at_most (v ∷ lists) [] e = absurd cc
  each_at_most (v ∷ lists) (s ∷ shards) e =
      let here : hit_rows v.items ≡ shard_rows normal columns q s = cc in
      let rest : map (λ (w : Vec Hit Global). hit_rows w.items) lists ≡ map (shard_rows normal columns q) shards = cc in
      let same : length (hit_rows v.items) ≡ length (shard_rows normal columns q s) = ap length here in
      (omega (arith, length-map v.items hit_row, same, shard_at_most s), each_at_most lists shards rest)

  -- the counts of handed over and merged rows are within the bounds of the page
  pub handed_within : (lists : List (Vec Hit Global)) (shards : List ShardView) → map (λ v. hit_rows v.items) lists ≡ map (shard_rows normal columns q) shards
      → (hits : List Hit) → hits ≡ merged_by hit_row q.direction most (contents_of lists) → (work : WorkView) → work.handed ≡ map (λ (v : Vec Hit Global). length v.items) lists → work.taken ≡ length hits
      → IsWorkWithin (length shards) most work
  handed_within lists shards e hits merge work handed taken =
      let sizes = λ (v : Vec Hit Global). length v.items in
      let count = ap length e in
      let order = order_by hit_row q.direction in
      let all = joined (contents_of lists) in
      record {
        shards = ap length handed ∙ length-map lists sizes ∙ sym (length-map lists (λ (v : Vec Hit Global). hit_rows v.items)) ∙ count ∙ length-map shards (shard_rows normal columns q);
        handed = subst (All (λ n. n ≤ most)) (sym handed) (All-from_recursion (λ n. n ≤ most) (map sizes lists) (each_at_most lists shards e));
        taken = taken ∙ ap length merge ∙ length-take most (sorted order all) ∙ ap (min most) (length_sorted order all ∙ length_joined lists ∙ ap sum (sym handed));
      }
