-- There are pages that follow one another by their bookmarks, and they join.
use lib.Dec.{T}
use Rattle.std.proofs.Common.{◌≡◌, ◌≢◌, ℕ, zero, suc, ◌-◌, ◌≤◌, Bool, true, false, ◌&&◌, cond, codes, List, [], ◌∷◌, ◌++◌, Option, Some, None, option_map, option_to_list, Ok, length, map, take, drop, Ordering, Less, Equal, Greater, is_gt, is_lt, refl, sym, ap, ap₂, ◌∙◌, subst, arith, append_assoc, length-drop}
use Rattle.std.specs.Prelude.{nat_eq}
use Rattle.std.proofs.Math.Seq.{take-nil}
use Rattle.std.specs.Cmp.{IsTotalOrder}
use Rattle.std.specs.Ordering.{ordering_reverse}
use Rattle.std.specs.FinMap.{entries, entries_sorted}
use Rattle.std.specs.FinMap.Entries.{below_all, is_sorted}
use Rattle.std.specs.List.{AllByRecursion, filter, filter_map}
use Rattle.std.specs.List.Sorted.{IsStrictlySortedBy}
use Rattle.std.specs.Option.{option_map_or}
use Rattle.std.proofs.lemmas.Cmp.{on_total, tied_itself, nat_eq_equiv, nat_list_cmp_total}
use Rattle.std.proofs.lemmas.List.{map-append, take-append-drop}
use Rattle.std.proofs.lemmas.Slice.Eq.{bytes_eq-Decides}
use Rattle.mg_collate.specs.Row.{directed_order}
use Rattle.mg_collate.specs.declared.direction.Direction.{Direction}
use Rattle.mg_collate.specs.declared.direction.Direction.TheVariants.{Asc, Desc}
use Rattle.mg_collate.specs.Sorted.{sorted_with, sorted}
use Rattle.mg_collate.proofs.Directed.{directed_total, directed_ties}
use Rattle.mg_collate.proofs.Sorting.{NoneBelow, Rises, rises_sorted}
use Rattle.mg_doc.specs.Served.{served_of}
use Rattle.mg_revtree.specs.History.{Paths}
use Rattle.mg_bookmark.specs.Bookmark.{RowPlace, spelled}
use Rattle.mg_bookmark.specs.Reading.{bookmark_read}
use Rattle.mg_value.specs.Value.{Value, item_list}
use Rattle.mg_value.specs.View.{items_of}
use Rattle.mg_normal.specs.Atoms.{atoms_of}
use Rattle.mg_index.specs.Choice.{Source, choice_of}
use Rattle.mg_index.specs.Definition.{IndexDefinition, Steps}
use Rattle.mg_index.specs.Reading.{is_same}
use Rattle.mg_merge.specs.Merged.{joined}
use Rattle.mg_shard.proofs.Shown.{bytes_cmp}
use Rattle.mg_query.specs.Laws.{CanBeReadBack, Follow, PagesReadBackJoin, answer_with, asked_after, from_first, place_at}
use Rattle.mg_query.specs.Page.{Candidate, Page, answer_of, candidate_of, candidates_of, source_columns, ddoc_of, accepts_bookmark, if_served, is_asked, is_same_ddoc, last, name_of, order_by, page_of, page_candidates, row_by, served_by, shown_of, value_at}
use Rattle.mg_query.specs.Query.{Query}
use Rattle.mg_query.proofs.Candidates.{shown_first}
use Rattle.mg_query.proofs.Serving.{choice_served, serves}

-- ---- candidates with different ids

all_if : {X : Type 0} (P : X → Type 0) (b : Bool) (xs ys : List X) → AllByRecursion P xs → AllByRecursion P ys → AllByRecursion P (cond b xs ys)
all_if P true xs ys h k = h
all_if P false xs ys h k = k

pub all_kept : {X : Type 0} (P : X → Type 0) (p : X → Bool) (xs : List X) → AllByRecursion P xs → AllByRecursion P (filter p xs)
all_kept P p [] h = tt
all_kept P p (x ∷ xs) h = all_if P (p x) (x ∷ filter p xs) (filter p xs) (h.0, all_kept P p xs h.1) (all_kept P p xs h.1)

all_inserted : {X : Type 0} (P : X → Type 0) (order : X → X → Ordering) (x : X) (ys : List X) → P x → AllByRecursion P ys → AllByRecursion P (sorted_with order x ys)
all_inserted P order x [] h k = (h, tt)
all_inserted P order x (y ∷ ys) h k = all_if P (is_gt (order x y)) (y ∷ sorted_with order x ys) (x ∷ y ∷ ys) (k.0, all_inserted P order x ys h k.1) (h, k)

pub all_sorted : {X : Type 0} (P : X → Type 0) (order : X → X → Ordering) (xs : List X) → AllByRecursion P xs → AllByRecursion P (sorted order xs)
all_sorted P order [] h = tt
all_sorted P order (x ∷ xs) h = all_inserted P order x (sorted order xs) h.0 (all_sorted P order xs h.1)

-- the ids differ
abbrev Differ : Candidate → Candidate → Type 0
Differ c d = c.id ≡ d.id → ⊥

abbrev Apart : List Candidate → Type 0
Apart [] = Unit {0}
Apart (c ∷ cs) = AllByRecursion (Differ c) cs × Apart cs

apart_if : (b : Bool) (xs ys : List Candidate) → Apart xs → Apart ys → Apart (cond b xs ys)
apart_if true xs ys h k = h
apart_if false xs ys h k = k

apart_kept : (p : Candidate → Bool) (cs : List Candidate) → Apart cs → Apart (filter p cs)
apart_kept p [] h = tt
apart_kept p (c ∷ cs) h = apart_if (p c) (c ∷ filter p cs) (filter p cs) (all_kept (Differ c) p cs h.0, apart_kept p cs h.1) (apart_kept p cs h.1)

apart_inserted : (order : Candidate → Candidate → Ordering) (c : Candidate) (ds : List Candidate) → AllByRecursion (Differ c) ds → Apart ds → Apart (sorted_with order c ds)
apart_inserted order c [] h k = (tt, tt)
apart_inserted order c (d ∷ ds) h k =
    apart_if (is_gt (order c d)) (d ∷ sorted_with order c ds) (c ∷ d ∷ ds) (all_inserted (Differ d) order c ds (λ e. h.0 (sym e)) k.0, apart_inserted order c ds h.1 k.1) (h, k)

apart_sorted : (order : Candidate → Candidate → Ordering) (cs : List Candidate) → Apart cs → Apart (sorted order cs)
apart_sorted order [] h = tt
apart_sorted order (c ∷ cs) h = apart_inserted order c (sorted order cs) (all_sorted (Differ c) order cs h.0) (apart_sorted order cs h.1)

-- ---- the candidates of histories have different ids

both : (a b : Bool) → T (a && b) → T a × T b
both true b h = (tt, h)
both false b h = absurd h

less_differ : (id other : List ℕ) → T (is_lt (bytes_cmp id other)) → id ≡ other → ⊥
less_differ id other h e = subst (λ o. T (is_lt o)) (tied_itself nat_list_cmp_total id) (subst (λ x. T (is_lt (bytes_cmp id x))) (sym e) h)

abbrev candidate : List ℕ → Paths → Value → Candidate
candidate id h form = record { id = id; form = form; history = h }

above_one : (c : Candidate) (id : List ℕ) (h : Paths) (o : Option Value) (rest : List Candidate) → (c.id ≡ id → ⊥) → AllByRecursion (Differ c) rest
    → AllByRecursion (Differ c) (option_to_list (option_map (candidate id h) o) ++ rest)
above_one c id h None rest k m = m
above_one c id h (Some form) rest k m = (k, m)

all_above : (c : Candidate) (es : List (List ℕ × Paths)) → T (below_all bytes_cmp c.id es) → AllByRecursion (Differ c) (filter_map candidate_of es)
all_above c [] h = tt
all_above c (e ∷ es) h =
    let p = both (is_lt (bytes_cmp c.id e.0)) (below_all bytes_cmp c.id es) h in
    subst (AllByRecursion (Differ c)) (sym (shown_first candidate_of e es (candidate_of e) refl))
    (above_one c e.0 e.1 (served_of e.0 e.1) (filter_map candidate_of es) (less_differ c.id e.0 p.0) (all_above c es p.1))

apart_one : (id : List ℕ) (h : Paths) (o : Option Value) (rest : List Candidate) → ((form : Value) → AllByRecursion (Differ (candidate id h form)) rest) → Apart rest
    → Apart (option_to_list (option_map (candidate id h) o) ++ rest)
apart_one id h None rest k m = m
apart_one id h (Some form) rest k m = (k form, m)

apart_entries : (es : List (List ℕ × Paths)) → T (is_sorted bytes_cmp es) → Apart (filter_map candidate_of es)
apart_entries [] h = tt
apart_entries (e ∷ es) h =
    let p = both (below_all bytes_cmp e.0 es) (is_sorted bytes_cmp es) h in
    subst Apart (sym (shown_first candidate_of e es (candidate_of e) refl))
    (apart_one e.0 e.1 (served_of e.0 e.1) (filter_map candidate_of es) (λ form. all_above (candidate e.0 e.1 form) es p.0) (apart_entries es p.1))

-- ---- what comes after one of the documents in their order

module _ (columns : List Steps) (q : Query) where
  abbrev order : Candidate → Candidate → Ordering
  order = order_by columns q.direction

  order_total : IsTotalOrder order
  order_total = on_total (row_by columns) (directed_total q.direction)

  less : (c d : Candidate) (o : Ordering) → order c d ≡ o → is_gt o ≡ false → Differ c d → o ≡ Less
  less c d Less e h k = refl
  less c d Equal e h k = absurd (k (ap (λ r. r.1) (directed_ties q.direction (row_by columns c) (row_by columns d) e)))
  less c d Greater e h k = absurd cc

  all_less : (c : Candidate) (ds : List Candidate) → NoneBelow order c ds → AllByRecursion (Differ c) ds → AllByRecursion (λ d. order c d ≡ Less) ds
  all_less c [] h k = tt
  all_less c (d ∷ ds) h k = (less c d (order c d) refl h.0 k.0, all_less c ds h.1 k.1)

  climbs : (cs : List Candidate) → Rises order cs → Apart cs → IsStrictlySortedBy order cs
  unfolding IsStrictlySortedBy
  climbs [] h k = tt
  climbs (c ∷ cs) h k = (all_less c cs h.0 k.0, climbs cs h.1 k.1)

  abbrev follows : Candidate → Candidate → Bool
  follows c d = is_gt (order d c)

  all_later : (c : Candidate) (ds : List Candidate) → AllByRecursion (λ d. order c d ≡ Less) ds → filter (follows c) ds ≡ ds
  all_later c [] h = refl
  all_later c (d ∷ ds) h =
      let later : follows c d ≡ true = ap is_gt (order_total.antisymm d c ∙ ap ordering_reverse h.0) in
      ap (λ b. cond b (d ∷ filter (follows c) ds) (filter (follows c) ds)) later ∙ ap (λ xs. d ∷ xs) (all_later c ds h.1)

  all_middle : (P : Candidate → Type 0) (xs : List Candidate) (c : Candidate) (ys : List Candidate) → AllByRecursion P (xs ++ c ∷ ys) → P c
  all_middle P [] c ys h = h.0
  all_middle P (x ∷ xs) c ys h = all_middle P xs c ys h.1

  -- what comes after an element in the order is what stands after it in the sorted list
  after_one : (xs : List Candidate) (c : Candidate) (ys : List Candidate) → IsStrictlySortedBy order (xs ++ c ∷ ys) → filter (follows c) (xs ++ c ∷ ys) ≡ ys
  unfolding IsStrictlySortedBy
  after_one [] c ys h =
      let itself : follows c c ≡ false = ap is_gt (tied_itself order_total c) in
      ap (λ b. cond b (c ∷ filter (follows c) ys) (filter (follows c) ys)) itself ∙ all_later c ys h.0
  after_one (x ∷ xs) c ys h =
      let earlier : follows c x ≡ false = ap is_gt (all_middle (λ d. order x d ≡ Less) xs c ys h.0) in
      ap (λ b. cond b (x ∷ filter (follows c) (xs ++ c ∷ ys)) (filter (follows c) (xs ++ c ∷ ys))) earlier ∙ after_one xs c ys h.1

-- ---- the last of a page

record IsLast {X : Type 0} (xs : List X) : Type 0 where
  front : List X
  end : X
  is : xs ≡ front ++ end ∷ []
  at : last xs ≡ Some end

last_of : {X : Type 0} (x : X) (xs : List X) → IsLast (x ∷ xs)
last_of x [] = record { front = []; end = x; is = refl; at = refl }
last_of x (y ∷ xs) = let more = last_of y xs in record { front = x ∷ more.front; end = more.end; is = ap (λ ys. x ∷ ys) more.is; at = more.at }

first_taken : {X : Type 0} (n : ℕ) (x : X) (xs : List X) → 1 ≤ n → take n (x ∷ xs) ≡ x ∷ take (n - 1) xs
first_taken zero x xs h = absurd (omega arith)
first_taken (suc n) x xs h = let m : n ≡ suc n - 1 = omega arith in ap (λ k. x ∷ take k xs) m

-- ---- the index accepts a bookmark at the place of a document

ddoc_itself : (d : Option (List ℕ)) → is_same_ddoc d d ≡ true
ddoc_itself None = refl
ddoc_itself (Some d) = (bytes_eq-Decides d d).1 refl

direction_itself : (d : Direction) → is_same d d ≡ true
direction_itself Asc = refl
direction_itself Desc = refl

width : (f : Steps → Value) (columns : List Steps) → length (item_list (items_of (map f columns))) ≡ length columns
width f [] = refl
width f (column ∷ columns) = ap suc (width f columns)

one_width : (m n : ℕ) → m ≡ n → nat_eq m n ≡ true
one_width m n e = subst (λ k. nat_eq m k ≡ true) e (nat_eq_equiv.refl m)

accepts_place : (s : Source) (q : Query) (c : Candidate) (t : List ℕ) → accepts_bookmark s (asked_after q (Some (place_at s q c)) t) ≡ true
accepts_place s q c t =
    ap₂ ◌&&◌ (ddoc_itself (ddoc_of s)) (ap₂ ◌&&◌ ((bytes_eq-Decides (name_of s) (name_of s)).1 refl)
    (ap₂ ◌&&◌ (direction_itself q.direction) (one_width (length (item_list (items_of (map (value_at c) (source_columns s))))) (length (source_columns s)) (width (value_at c) (source_columns s)))))

-- ---- pages joined

module _ (ds : List IndexDefinition) (s : Source) (q : Query) (cs : List Candidate) (chosen : choice_of ds (atoms_of q.selector) q.sort q.hint ≡ Some s) (none_skipped : q.skip ≡ 0) (some : 1 ≤ q.limit) where
  abbrev whole : List Candidate
  whole = sorted (order_by (source_columns s) q.direction) (filter (is_asked q) cs)

  abbrev after : Option RowPlace → Candidate → Bool
  after place c = option_map_or (λ p. is_gt (directed_order q.direction (row_by (source_columns s) c) (p.key, p.id))) place true

  -- the page of these candidates for the query with this place and text as its bookmark
  abbrev page_with : Option RowPlace → List ℕ → List Candidate → Page
  page_with place t rows = page_of s (asked_after q place t) rows

  -- if a text is read as a place, the query with this text as its bookmark is answered by the page of what is left after the place
  answered : (t : List ℕ) (place : Option RowPlace) (left rows : List Candidate) → bookmark_read t ≡ Some place → accepts_bookmark s (asked_after q place t) ≡ true → filter (after place) whole ≡ left → rows ≡ take q.limit left
      → answer_with ds q cs t ≡ Some (Ok (page_with place t rows))
  answered t place left rows read fit here e =
      let asked = asked_after q place t in
      let cut : page_candidates (source_columns s) asked cs ≡ rows = ap (λ n. take q.limit (drop n (filter (after place) whole))) none_skipped ∙ ap (take q.limit) here ∙ sym e in
      let served : served_by ds asked ≡ Ok s = serves ds asked s true chosen fit in
      ap (option_map (λ (p : Option RowPlace). answer_of ds (asked_after q p t) cs)) read
      ∙ ap Some (ap (if_served (λ (r : Source). page_of r asked (page_candidates (source_columns r) asked cs))) served ∙ ap (λ (xs : List Candidate). Ok (page_with place t xs)) cut)

  -- pages from a text on, which show these documents
  record Joined (t : List ℕ) (left : List Candidate) : Type 0 where
    pages : List Page
    follow : Follow ds q cs t pages
    all : joined (map (λ page. page.docs) pages) ≡ map (shown_of q) left

  one_more : (t : List ℕ) (page : Page) (pages : List Page) → answer_with ds q cs t ≡ Some (Ok page) → page.docs ≢ [] → Follow ds q cs page.bookmark pages → Follow ds q cs t (page ∷ pages)
  one_more t page [] answer some f = absurd f
  one_more t page (next ∷ pages) answer some f = (answer, some, f)

  -- there are such pages
  join : IsStrictlySortedBy (order (source_columns s) q) whole → AllByRecursion (CanBeReadBack s q) whole
      → (n : ℕ) (done left : List Candidate) (place : Option RowPlace) (t : List ℕ) → length left ≤ n → whole ≡ done ++ left → filter (after place) whole ≡ left → bookmark_read t ≡ Some place
      → accepts_bookmark s (asked_after q place t) ≡ true → Joined t left
  join climbing back n done [] place t small parts here read fit =
      record { pages = page_with place t [] ∷ []; follow = (answered t place [] [] read fit here (sym (take-nil q.limit)), refl); all = refl }
  join climbing back zero done (c ∷ rest) place t small parts here read fit = absurd (omega (arith, small))
  join climbing back (suc n) done (c ∷ rest) place t small parts here read fit =
      let taken = take (q.limit - 1) rest in
      let rows = c ∷ taken in
      let page = page_with place t rows in
      let l = last_of c taken in
      let later = drop q.limit (c ∷ rest) in
      let cut : c ∷ rest ≡ rows ++ later = sym (take-append-drop q.limit (c ∷ rest)) ∙ ap (λ xs. xs ++ later) (first_taken q.limit c rest some) in
      let whole_is : whole ≡ (done ++ l.front) ++ l.end ∷ later =
      parts ∙ ap (λ xs. done ++ xs) (cut ∙ ap (λ xs. xs ++ later) l.is ∙ append_assoc l.front (l.end ∷ []) later) ∙ sym (append_assoc done l.front (l.end ∷ later)) in
      let readable : CanBeReadBack s q l.end = all_middle (source_columns s) q (CanBeReadBack s q) (done ++ l.front) l.end later (subst (AllByRecursion (CanBeReadBack s q)) whole_is back) in
      let mark : page.bookmark ≡ spelled (place_at s q l.end) = ap (λ (o : Option Candidate). option_map_or (λ d. spelled (place_at s q d)) o t) l.at in
      let here_next : filter (after (Some (place_at s q l.end))) whole ≡ later =
      ap (filter (after (Some (place_at s q l.end)))) whole_is ∙ after_one (source_columns s) q (done ++ l.front) l.end later (subst (IsStrictlySortedBy (order (source_columns s) q)) whole_is climbing) in
      let parts_next : whole ≡ (done ++ rows) ++ later = parts ∙ ap (λ xs. done ++ xs) cut ∙ sym (append_assoc done rows later) in
      let fewer : length later ≡ length (c ∷ rest) - q.limit = length-drop q.limit (c ∷ rest) in
      let smaller : length later ≤ n = omega (arith, fewer, small, some) in
      let next = join climbing back n (done ++ rows) later (Some (place_at s q l.end)) page.bookmark smaller parts_next here_next (ap bookmark_read mark ∙ readable) (accepts_place s q l.end page.bookmark) in
      record {
        pages = page ∷ next.pages;
        follow = one_more t page next.pages (answered t place (c ∷ rest) rows read fit here (sym (first_taken q.limit c rest some))) (λ e. cc) next.follow;
        all = ap (λ xs. map (shown_of q) rows ++ xs) next.all ∙ sym (map-append (shown_of q) rows later) ∙ ap (map (shown_of q)) (sym cut);
      }

all_after_none : (cs : List Candidate) → filter (λ c. true) cs ≡ cs
all_after_none [] = refl
all_after_none (c ∷ cs) = ap (λ xs. c ∷ xs) (all_after_none cs)

pub pages_that_read_back_join : PagesReadBackJoin
pages_that_read_back_join ds s q hs served skipped limit back =
    let cs = candidates_of hs in
    let order = order_by (source_columns s) q.direction in
    let asked = filter (is_asked q) cs in
    let whole = sorted order asked in
    let climbing = climbs (source_columns s) q whole (rises_sorted order (order_total (source_columns s) q) asked) (apart_sorted order asked (apart_kept (is_asked q) cs (apart_entries (entries hs) (entries_sorted hs)))) in
    let readable = subst (AllByRecursion (CanBeReadBack s q)) (all_after_none whole) back in
    let chosen = choice_served ds (from_first q) s served in
    let all = join ds s q cs chosen skipped limit climbing readable (length whole) [] whole None (codes "nil") (omega arith) refl (all_after_none whole) refl refl in
    (all.pages, all.follow, all.all ∙ ap (map (shown_of q)) (sym (all_after_none whole)))
