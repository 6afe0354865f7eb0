-- The hits of a page lend the documents of its candidates.
use Rattle.std.proofs.Common.{◌≡◌, ℕ, zero, suc, ◌+◌, ◌-◌, ◌<◌, ◌≤◌, true, List, [], ◌∷◌, Option, Some, None, IfSome, is_some, Vec, Global, get_or, length, map, take, drop, slice_get, refl, sym, ap, ap₂, ◌∙◌, subst, arith}
use Rattle.std.specs.Prelude.{unwrap_or}
use Rattle.std.specs.FinMap.{get}
use Rattle.std.specs.Option.{option_and_then}
use Rattle.std.specs.List.{AllByRecursion, AllZip, filter}
use Rattle.mg_collate.proofs.Sorting.{all_append, all_weaker}
use Rattle.mg_collate.specs.Sorted.{sorted}
use Rattle.mg_collate.specs.declared.direction.Direction.{Direction}
use Rattle.mg_doc.specs.Served.{served_of}
use Rattle.mg_index.specs.Definition.{Steps}
use Rattle.mg_merge.specs.Merged.{contents_of, joined, merged_by, order_by}
use Rattle.mg_revtree.specs.History.{Paths}
use Rattle.mg_revtree.specs.Tree.{StandsFor}
use Rattle.mg_scan.specs.Hit.{AreHitsIn, AreHitsOf, IsHitIn, IsHitOf, hit_form, hit_kept, hit_row}
use Rattle.mg_scan.specs.declared.hit.Hit.{Hit}
use Rattle.mg_shard.specs.Dealt.{Placing, ShardsStandFor, histories_on}
use Rattle.mg_shard.specs.Documents.{KeptDocument, StandFor}
use Rattle.mg_shard.specs.Histories.{Histories}
use Rattle.mg_shard.specs.Shard.{ShardView}
use Rattle.mg_query.specs.Page.{Candidate, candidates_of, is_after, is_asked, last, order_by as candidate_order, page_candidates, row_by}
use Rattle.mg_query.specs.Lent.{LendEach, Lends}
use Rattle.mg_query.specs.Query.{Query}
use Rattle.mg_query.proofs.Chained.{all_kept, all_sorted}
use Rattle.mg_query.proofs.Kept.{IsKnown, all_known, kept_history}

-- ---- a hit lends the tree and the form of the history of its id

record IsOf (hs : Histories) (h : Hit) : Type 0 where
  history : Paths
  known : get hs (hit_row h).1 ≡ Some history
  tree : IfSome (hit_kept h) (λ d. StandsFor d.0 history)
  form : hit_form h ≡ served_of (hit_row h).1 history

served_kept : (o : Option KeptDocument) → is_some (option_and_then (λ (d : KeptDocument). d.1) o) ≡ true → (d : KeptDocument) × (o ≡ Some d)
served_kept None e = absurd cc
served_kept (Some d) e = (d, refl)

of_shard : (place : Placing) (n i : ℕ) (hs : Histories) (s : ShardView) → StandFor s.documents (histories_on place n i hs) → (h : Hit) → IsHitOf s h → IsOf hs h
of_shard place n i hs s stands h is =
    let id = (hit_row h).1 in
    let here = served_kept (hit_kept h) h.served in
    let k = kept_history place n i hs id s.documents here.0 stands (ap (λ (t : ShardView). get t.documents id) (sym is) ∙ here.1) in
    record {
      history = k.0;
      known = k.1;
      tree = subst (λ (o : Option KeptDocument). IfSome o (λ d. StandsFor d.0 k.0)) (sym here.1) k.2;
      form = ap (option_and_then (λ (d : KeptDocument). d.1)) here.1 ∙ k.3;
    }

of_in : (place : Placing) (hs : Histories) (shards : List ShardView) → ShardsStandFor place shards hs → (h : Hit) → IsHitIn shards h → IsOf hs h
of_in place hs shards stands h is = of_shard place (length shards) is.place hs is.shard (stands.each is.place is.shard is.there) h is.hit

all_taken : {X : Type 0} (P : X → Type 0) (n : ℕ) (xs : List X) → AllByRecursion P xs → AllByRecursion P (take n xs)
all_taken P zero xs h = tt
all_taken P (suc n) [] h = tt
all_taken P (suc n) (x ∷ xs) h = (h.0, all_taken P n xs h.1)

all_dropped : {X : Type 0} (P : X → Type 0) (n : ℕ) (xs : List X) → AllByRecursion P xs → AllByRecursion P (drop n xs)
all_dropped P zero xs h = h
all_dropped P (suc n) [] h = tt
all_dropped P (suc n) (x ∷ xs) h = all_dropped P n xs h.1

-- ---- hits in lists, one list for each shard, are hits in these shards

in_lists : (all : List ShardView) (k : ℕ) (shards : List ShardView) (lists : List (Vec Hit Global)) → ((i : ℕ) (s : ShardView) → slice_get shards i ≡ Some s → slice_get all (k + i) ≡ Some s)
    → AllZip (λ s v. AreHitsOf s v.items) shards lists → AllByRecursion (IsHitIn all) (joined (contents_of lists))
in_lists all k [] [] each h = tt
in_lists all k [] (v ∷ lists) each h = absurd h
in_lists all k (s ∷ shards) [] each h = absurd h
in_lists all k (s ∷ shards) (v ∷ lists) each h =
    all_append (IsHitIn all) v.items (joined (contents_of lists))
    (all_weaker (IsHitOf s) (IsHitIn all) (λ x is. record { place = k + 0; shard = s; there = each 0 s refl; hit = is }) v.items h.0)
    (in_lists all (suc k) shards lists (λ i t e. let m : k + suc i ≡ suc k + i = omega arith in subst (λ j. slice_get all j ≡ Some t) m (each (suc i) t e)) h.1)

-- the hits of the merge of these lists are hits in the shards
pub merged_in : (shards : List ShardView) (lists : List (Vec Hit Global)) (direction : Direction) (most : ℕ) → AllZip (λ s v. AreHitsOf s v.items) shards lists
    → AreHitsIn shards (merged_by hit_row direction most (contents_of lists))
merged_in shards lists direction most h =
    let all = joined (contents_of lists) in
    all_taken (IsHitIn shards) most (sorted (order_by hit_row direction) all)
    (all_sorted (IsHitIn shards) (order_by hit_row direction) all (in_lists shards 0 shards lists (λ i s e. let here : i ≡ 0 + i = omega arith in subst (λ j. slice_get shards j ≡ Some s) here e) h))

-- ---- a hit lends the candidate whose row it has

same : {X : Type 0} (x y : X) → Some x ≡ Some y → x ≡ y
same x y e = ap (λ o. unwrap_or o x) e

lends : (columns : List Steps) (hs : Histories) (h : Hit) (c : Candidate) → hit_row h ≡ row_by columns c → IsOf hs h → IsKnown hs c → Lends columns h c
lends columns hs h c row is known =
    let id : (hit_row h).1 ≡ c.id = ap (λ r. r.1) row in
    let history : is.history ≡ c.history = same is.history c.history (sym is.known ∙ ap (get hs) id ∙ known.0) in
    record { row = row; form = is.form ∙ ap₂ served_of id history ∙ known.1; tree = subst (λ (p : Paths). IfSome (hit_kept h) (λ d. StandsFor d.0 p)) history is.tree }

lend_all : (columns : List Steps) (hs : Histories) (hits : List Hit) (cs : List Candidate) → map hit_row hits ≡ map (row_by columns) cs → AllByRecursion (IsOf hs) hits → AllByRecursion (IsKnown hs) cs → LendEach columns hits cs
lend_all columns hs [] [] e p k = tt
lend_all columns hs [] (c ∷ cs) e p k = absurd cc
lend_all columns hs (h ∷ hits) [] e p k = absurd cc
lend_all columns hs (h ∷ hits) (c ∷ cs) e p k =
    let first : hit_row h ≡ row_by columns c = cc in
    let rest : map hit_row hits ≡ map (row_by columns) cs = cc in
    (lends columns hs h c first p.0 k.0, lend_all columns hs hits cs rest p.1 k.1)

known_rows : (columns : List Steps) (q : Query) (hs : Histories) → AllByRecursion (IsKnown hs) (page_candidates columns q (candidates_of hs))
known_rows columns q hs =
    let asked = filter (is_asked q) (candidates_of hs) in
    let order = candidate_order columns q.direction in
    let found = filter (is_after columns q) (sorted order asked) in
    all_taken (IsKnown hs) q.limit (drop q.skip found)
    (all_dropped (IsKnown hs) q.skip found
    (all_kept (IsKnown hs) (is_after columns q) (sorted order asked) (all_sorted (IsKnown hs) order asked (all_kept (IsKnown hs) (is_asked q) (candidates_of hs) (all_known hs)))))

-- hits with the rows of a page lend its candidates
pub lend_first : (columns : List Steps) (q : Query) (place : Placing) (hs : Histories) (shards : List ShardView) (skip : ℕ) (hits : List Hit) → ShardsStandFor place shards hs → AreHitsIn shards hits
    → map hit_row (drop skip hits) ≡ map (row_by columns) (page_candidates columns q (candidates_of hs)) → LendEach columns (drop skip hits) (page_candidates columns q (candidates_of hs))
lend_first columns q place hs shards skip hits stands h e =
    lend_all columns hs (drop skip hits) (page_candidates columns q (candidates_of hs)) e
    (all_dropped (IsOf hs) skip hits (all_weaker (IsHitIn shards) (IsOf hs) (of_in place hs shards stands) hits h)) (known_rows columns q hs)

-- ---- hits and candidates one by one

-- the candidate that a hit lends, and those after it
pub lends_next : (columns : List Steps) (hits : List Hit) (cs : List Candidate) (i : ℕ) (h : Hit) → LendEach columns hits cs → i < length hits → h ≡ get_or hits i h
    → (c : Candidate) × Lends columns h c × (drop i cs ≡ c ∷ drop (i + 1) cs)
lends_next columns [] cs i h l less is = absurd (omega arith)
lends_next columns (x ∷ hits) [] i h l less is = absurd l
lends_next columns (x ∷ hits) (c ∷ cs) zero h l less is = (c, subst (λ y. Lends columns y c) (sym is) l.0, refl)
lends_next columns (x ∷ hits) (c ∷ cs) (suc i) h l less is =
    let more = lends_next columns hits cs i h l.1 (omega arith) is in
    let n : suc (i + 1) ≡ suc i + 1 = omega arith in
    (more.0, more.1, more.2 ∙ ap (λ m. more.0 ∷ drop m (c ∷ cs)) n)

-- after the last hit there are no more candidates
pub lends_no_more : (columns : List Steps) (hits : List Hit) (cs : List Candidate) (i : ℕ) → LendEach columns hits cs → length hits ≤ i → drop i cs ≡ []
lends_no_more columns [] [] zero l le = refl
lends_no_more columns [] [] (suc i) l le = refl
lends_no_more columns [] (c ∷ cs) i l le = absurd l
lends_no_more columns (h ∷ hits) [] i l le = absurd l
lends_no_more columns (h ∷ hits) (c ∷ cs) zero l le = absurd (omega arith)
lends_no_more columns (h ∷ hits) (c ∷ cs) (suc i) l le = lends_no_more columns hits cs i l.1 (omega arith)

as_many : (columns : List Steps) (hits : List Hit) (cs : List Candidate) → LendEach columns hits cs → length cs ≡ length hits
as_many columns [] [] l = refl
as_many columns [] (c ∷ cs) l = absurd l
as_many columns (h ∷ hits) [] l = absurd l
as_many columns (h ∷ hits) (c ∷ cs) l = ap suc (as_many columns hits cs l.1)

lends_at : (columns : List Steps) (hits : List Hit) (cs : List Candidate) (i : ℕ) (h : Hit) → LendEach columns hits cs → slice_get hits i ≡ Some h → (c : Candidate) × Lends columns h c × (slice_get cs i ≡ Some c)
lends_at columns [] cs zero h l e = absurd cc
lends_at columns [] cs (suc i) h l e = absurd cc
lends_at columns (x ∷ hits) [] i h l e = absurd l
lends_at columns (x ∷ hits) (c ∷ cs) zero h l e = (c, subst (λ y. Lends columns y c) (same x h e) l.0, refl)
lends_at columns (x ∷ hits) (c ∷ cs) (suc i) h l e = lends_at columns hits cs i h l.1 e

-- the last item of a list is at its last place
last_at : {X : Type 0} (xs : List X) → slice_get xs (length xs - 1) ≡ last xs
last_at [] = refl
last_at (x ∷ []) = refl
last_at (x ∷ y ∷ ys) =
    let n : length (x ∷ y ∷ ys) - 1 ≡ suc (length (y ∷ ys) - 1) = omega arith in
    ap (slice_get (x ∷ y ∷ ys)) n ∙ last_at (y ∷ ys)

-- the last hit lends the last candidate
pub lends_last : (columns : List Steps) (hits : List Hit) (cs : List Candidate) (h : Hit) → LendEach columns hits cs → slice_get hits (length hits - 1) ≡ Some h
    → (c : Candidate) × Lends columns h c × (last cs ≡ Some c)
lends_last columns hits cs h l e =
    let place : length hits - 1 ≡ length cs - 1 = ap (λ n. n - 1) (sym (as_many columns hits cs l)) in
    let found = lends_at columns hits cs (length hits - 1) h l e in
    (found.0, found.1, sym (last_at cs) ∙ ap (slice_get cs) (sym place) ∙ found.2)

none_at : (columns : List Steps) (hits : List Hit) (cs : List Candidate) (i : ℕ) → LendEach columns hits cs → slice_get hits i ≡ None → slice_get cs i ≡ None
none_at columns [] [] zero l e = refl
none_at columns [] [] (suc i) l e = refl
none_at columns [] (c ∷ cs) i l e = absurd l
none_at columns (h ∷ hits) [] i l e = absurd l
none_at columns (h ∷ hits) (c ∷ cs) zero l e = absurd cc
none_at columns (h ∷ hits) (c ∷ cs) (suc i) l e = none_at columns hits cs i l.1 e

pub lends_none : (columns : List Steps) (hits : List Hit) (cs : List Candidate) → LendEach columns hits cs → slice_get hits (length hits - 1) ≡ None → last cs ≡ None
lends_none columns hits cs l e = sym (last_at cs) ∙ ap (λ n. slice_get cs (n - 1)) (as_many columns hits cs l) ∙ none_at columns hits cs (length hits - 1) l e
