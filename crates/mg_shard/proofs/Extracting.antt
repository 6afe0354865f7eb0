-- The lists of rows, and the pages, that threads make, joined in order.
use denote.Ref.{Bor}
use Rattle.std.proofs.Common.{◌≡◌, ℕ, zero, suc, ◌+◌, ◌<◌, List, [], ◌∷◌, ◌++◌, Option, Some, None, Result, Ok, Err, map, length, take, drop, option_and_then, refl, sym, ap, ap₂, ◌∙◌, subst, arith, IfOk}
use Rattle.std.proofs.lemmas.List.{length-take}
use Rattle.std.proofs.lemmas.List.Concat.{flat_map-append}
use Rattle.std.proofs.lemmas.List.Elements.{filter_map-append}
use Rattle.std.proofs.lemmas.List.Sorted.{IsPermutation-append, IsPermutation-refl}
use Rattle.std.specs.Prelude.{MatchResult, Contains}
use Rattle.std.specs.List.{AllByRecursion, AllZip, cons_option, filter_map, flat_map}
use Rattle.std.specs.List.Sorted.{IsPermutation}
use Rattle.std.specs.declared.alloc.Global.{Global}
use Rattle.std.specs.declared.vec.Vec.{Vec}
use Rattle.rayon.proofs.ToStd.{chunks_of-concat, slice-AllZip}
use Rattle.rayon.specs.Lists.{chunks_from, chunks_of}
use Rattle.mg_collate.proofs.Sorting.{permutation_sorted}
use Rattle.mg_collate.specs.Row.{RowValue, row_value_order}
use Rattle.mg_collate.specs.Sorted.{sorted}
use Rattle.mg_index.specs.Definition.{Steps}
use Rattle.mg_pages.specs.Runs.{elements_view}
use Rattle.mg_shard.specs.Documents.{doc_entry, kept_entry, docs_in}
use Rattle.mg_shard.specs.Extracted.{document_row, rows_in}
use Rattle.mg_shard.specs.Histories.{ServedDocument}
use Rattle.mg_shard.specs.Rows.{row_of, rows_of}
use Rattle.mg_shard.specs.declared.document.Document.{Document}
use Rattle.mg_value.specs.declared.error.NoMemory.{NoMemory}

abbrev pub Run : Type 0
Run = Bor (List Document)

-- a piece of the pages
abbrev pub Piece : Type 0
Piece = Bor (List Run)

abbrev pub Given : Type 0
Given = Result (Vec RowValue Global) NoMemory

row_step : (columns : List Steps) (o : Option ServedDocument) (ds : List ServedDocument)
    → cons_option (option_and_then (row_of columns) o) (filter_map (row_of columns) ds) ≡ filter_map (row_of columns) (cons_option o ds)
row_step columns None ds = refl
row_step columns (Some d) ds = refl

-- the rows of documents are those of the served ones
pub rows_served : (columns : List Steps) (ds : List Document) → rows_in columns ds ≡ filter_map (row_of columns) (docs_in ds)
rows_served columns [] = refl
rows_served columns (d ∷ ds) = ap (cons_option (document_row columns d)) (rows_served columns ds) ∙ row_step columns (doc_entry (kept_entry d)) (docs_in ds)

take_none : (n : ℕ) → take {A = Run} n [] ≡ []
take_none zero = refl
take_none (suc n) = refl

-- the first `a` pages, and then `n` more
pub take_more : (a n m : ℕ) (runs : List Run) → m ≡ a + n → take a runs ++ take n (drop a runs) ≡ take m runs
take_more zero n m runs e = let same : n ≡ m = omega (arith, e) in ap (λ k. take k runs) same
take_more (suc a) n zero runs e = absurd (omega (arith, e))
take_more (suc a) n (suc m) [] e = take_none n
take_more (suc a) n (suc m) (run ∷ runs) e = ap (λ rs. run ∷ rs) (take_more a n m runs (omega (arith, e)))

-- if each thread returned the rows of its piece, sorted, the lists hold the rows of all documents
rows_given : (columns : List Steps) (pieces : List Piece) (rs : List Given) (lists : List (Vec RowValue Global))
    → AllZip (λ (p : Piece) r. IfOk r (λ v. v.items ≡ rows_of columns (docs_in (elements_view p.now)))) pieces rs
    → rs ≡ map Ok lists → IsPermutation (rows_in columns (elements_view (elements_view pieces))) (flat_map (λ (list : Vec RowValue Global). list.items) lists)
rows_given columns [] [] [] h e = IsPermutation-refl []
rows_given columns [] [] (v ∷ lists) h e = absurd cc
rows_given columns [] (r ∷ rs) lists h e = absurd h
rows_given columns (p ∷ pieces) [] lists h e = absurd h
rows_given columns (p ∷ pieces) (Ok v ∷ rs) [] h e = absurd cc
rows_given columns (p ∷ pieces) (Ok v ∷ rs) (w ∷ lists) h e =
    let same : v ≡ w = cc in
    let more : rs ≡ map Ok lists = cc in
    let others : List Run = elements_view pieces in
    let first : List RowValue = rows_in columns (elements_view p.now) in
    let list : w.items ≡ sorted row_value_order first =
    ap (λ (list : Vec RowValue Global). list.items) (sym same) ∙ h.0 ∙ ap (sorted row_value_order) (sym (rows_served columns (elements_view p.now))) in
    let split : rows_in columns (elements_view (p.now ++ others)) ≡ first ++ rows_in columns (elements_view others) =
    ap (rows_in columns) (flat_map-append (λ (run : Run). run.now) p.now others) ∙ filter_map-append (document_row columns) (elements_view p.now) (elements_view others) in
    subst (λ (all : List RowValue). IsPermutation all (w.items ++ flat_map (λ (list : Vec RowValue Global). list.items) lists)) (sym split)
    (IsPermutation-append first w.items (rows_in columns (elements_view others)) (flat_map (λ (list : Vec RowValue Global). list.items) lists)
    (subst (λ (rows : List RowValue). IsPermutation first rows) (sym list) (permutation_sorted row_value_order first))
    (rows_given columns pieces rs lists h.1 more))
rows_given columns (p ∷ pieces) (Err x ∷ rs) [] h e = absurd cc
rows_given columns (p ∷ pieces) (Err x ∷ rs) (w ∷ lists) h e = absurd cc

-- the result of all threads is the lists with all rows, or a refusal of memory
pub lists_together : (columns : List Steps) (pieces : List Piece) (xs : List (Bor Piece)) (rs : List Given) (together : Result (Vec (Vec RowValue Global) Global) NoMemory)
    → map (λ (x : Bor Piece). x.now) xs ≡ pieces → AllZip (λ (x : Bor Piece) r. IfOk r (λ v. v.items ≡ rows_of columns (docs_in (elements_view x.now.now)))) xs rs
    → MatchResult together (λ v. (lists : List (Vec RowValue Global)) × (rs ≡ map Ok lists) × (v.items ≡ lists)) (λ e. Contains rs (Err e))
    → IfOk together (λ v. IsPermutation (rows_in columns (elements_view (elements_view pieces))) (flat_map (λ (list : Vec RowValue Global). list.items) v.items))
lists_together columns pieces xs rs (Err e) kept_documents each all = tt
lists_together columns pieces xs rs (Ok v) kept_documents each all =
    subst (λ (lists : List (Vec RowValue Global)). IsPermutation (rows_in columns (elements_view (elements_view pieces))) (flat_map (λ (list : Vec RowValue Global). list.items) lists))
    (sym all.2)
    (rows_given columns pieces rs all.0 (slice-AllZip xs pieces kept_documents (λ (p : Piece) r. IfOk r (λ v. v.items ≡ rows_of columns (docs_in (elements_view p.now)))) rs each) all.1)

abbrev pub Made : Type 0
Made = Result (List RowValue) NoMemory

abbrev Chunk : Type 0
Chunk = Bor (List RowValue)

-- if each thread returned a page, the pages are the chunks of which they were made
pages_given : (chunks : List (List RowValue)) (rs : List Made) (pages : List (List RowValue)) → AllZip (λ (c : List RowValue) r. IfOk r (λ p. p ≡ c)) chunks rs → rs ≡ map Ok pages → pages ≡ chunks
pages_given [] [] [] h e = refl
pages_given [] [] (p ∷ pages) h e = absurd cc
pages_given [] (r ∷ rs) pages h e = absurd h
pages_given (c ∷ chunks) [] pages h e = absurd h
pages_given (c ∷ chunks) (Ok p ∷ rs) [] h e = absurd cc
pages_given (c ∷ chunks) (Ok p ∷ rs) (q ∷ pages) h e =
    let same : p ≡ q = cc in
    let more : rs ≡ map Ok pages = cc in
    ap₂ (λ us vs. us ∷ vs) (sym same ∙ h.0) (pages_given chunks rs pages h.1 more)
pages_given (c ∷ chunks) (Err x ∷ rs) [] h e = absurd cc
pages_given (c ∷ chunks) (Err x ∷ rs) (q ∷ pages) h e = absurd cc

chunks_some : (fuel size : ℕ) (rows : List RowValue) → 0 < size → AllByRecursion (λ (p : List RowValue). 0 < length p) (chunks_from fuel size rows)
chunks_some zero size rows some = tt
chunks_some (suc n) size [] some = tt
chunks_some (suc n) size (r ∷ rows) some =
    let long = length-take size (r ∷ rows) in
    let first : 0 < length (take size (r ∷ rows)) = omega arith in
    (first, chunks_some n size (drop size (r ∷ rows)) some)

module _ (size : ℕ) (rows : List RowValue) (xs : List Chunk) (rs : List Made) where
  pages_are : (v : Vec (List RowValue) Global) → map (λ (x : Chunk). x.now) xs ≡ chunks_of size rows → AllZip (λ (x : Chunk) r. IfOk r (λ p. p ≡ x.now)) xs rs
      → (pages : List (List RowValue)) × (rs ≡ map Ok pages) × (v.items ≡ pages) → v.items ≡ chunks_of size rows
  pages_are v kept_documents each all =
      all.2 ∙ pages_given (chunks_of size rows) rs all.0 (slice-AllZip xs (chunks_of size rows) kept_documents (λ (c : List RowValue) r. IfOk r (λ p. p ≡ c)) rs each) all.1

  -- the result of all threads is the pages, which hold all rows in their order, or a refusal of memory
  pub pages_together : (together : Result (Vec (List RowValue) Global) NoMemory) → 0 < size
      → map (λ (x : Chunk). x.now) xs ≡ chunks_of size rows → AllZip (λ (x : Chunk) r. IfOk r (λ p. p ≡ x.now)) xs rs
      → MatchResult together (λ v. (pages : List (List RowValue)) × (rs ≡ map Ok pages) × (v.items ≡ pages)) (λ e. Contains rs (Err e))
      → IfOk together (λ v. flat_map (λ (p : List RowValue). p) v.items ≡ rows)
  pages_together (Err e) some kept_documents each all = tt
  pages_together (Ok v) some kept_documents each all = ap (flat_map (λ (p : List RowValue). p)) (pages_are v kept_documents each all) ∙ chunks_of-concat size rows some

  -- none of these pages is empty
  pub pages_some : (together : Result (Vec (List RowValue) Global) NoMemory) → 0 < size
      → map (λ (x : Chunk). x.now) xs ≡ chunks_of size rows → AllZip (λ (x : Chunk) r. IfOk r (λ p. p ≡ x.now)) xs rs
      → MatchResult together (λ v. (pages : List (List RowValue)) × (rs ≡ map Ok pages) × (v.items ≡ pages)) (λ e. Contains rs (Err e))
      → IfOk together (λ v. AllByRecursion (λ (p : List RowValue). 0 < length p) v.items)
  pages_some (Err e) some kept_documents each all = tt
  pages_some (Ok v) some kept_documents each all =
      subst (λ (ps : List (List RowValue)). AllByRecursion (λ (p : List RowValue). 0 < length p) ps) (sym (pages_are v kept_documents each all)) (chunks_some (length rows) size rows some)
