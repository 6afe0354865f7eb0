-- The text of rows, one after the other, and of the line that has them.
use Rattle.std.proofs.Common.{◌≡◌, ◌∙◌, ℕ, ◌+◌, ◌<◌, ◌≤◌, Bool, true, false, cond, List, [], ◌∷◌, ◌++◌, append_assoc, codes, drop, get_or, length, map, nat_lt, pos, sym, ap, ap₂, arith}
use Rattle.std.proofs.lemmas.Bool.Decides.{nat_tests}
use Rattle.std.proofs.lemmas.List.{drop_all, drop_more}
use Rattle.json.specs.Print.{escape_byte}
use Rattle.mg_value.specs.Text.{compact, compact_items}
use Rattle.mg_value.specs.Value.{Value, list, whole}
use Rattle.mg_value.specs.View.{items_of}
use Rattle.mg_query.specs.Paged.{shown_view}
use Rattle.mg_query.specs.declared.shown.Shown.{Shown}
use Rattle.mg_engine.specs.Bodies.{line_of}
use Rattle.mg_engine.specs.Questions.{listed_row, member_or_null, rows_value}
use Rattle.mg_engine.specs.Rows.{before_doc, before_id, row_front}

-- ---- one row

-- `,"key":`, and `,"value":{"rev":`
abbrev pub before_key : List ℕ
before_key = 44 ∷ 34 ∷ 107 ∷ 101 ∷ 121 ∷ 34 ∷ 58 ∷ []

abbrev pub before_rev : List ℕ
before_rev = 44 ∷ 34 ∷ 118 ∷ 97 ∷ 108 ∷ 117 ∷ 101 ∷ 34 ∷ 58 ∷ 123 ∷ 34 ∷ 114 ∷ 101 ∷ 118 ∷ 34 ∷ 58 ∷ []

without_doc : (o a i k v r x y : List ℕ) → ((((((o ++ a) ++ i) ++ k) ++ i) ++ v) ++ r) ++ (x ++ y) ≡ o ++ (a ++ (i ++ (k ++ (i ++ (v ++ ((r ++ x) ++ y))))))
without_doc o a i k v r x y = simp append_assoc

with_doc : (o d b a i k v r x y : List ℕ) → ((((((o ++ ((d ++ b) ++ a)) ++ i) ++ k) ++ i) ++ v) ++ r) ++ (x ++ y) ≡ o ++ (d ++ (b ++ (a ++ (i ++ (k ++ (i ++ (v ++ ((r ++ x) ++ y))))))))
with_doc o d b a i k v r x y = simp append_assoc

-- a text and after it the parts of a row
pub row_parts : (documents : Bool) (v : Value) (out : List ℕ)
    → ((((((out ++ row_front documents v) ++ compact (member_or_null (codes "_id") v)) ++ before_key) ++ compact (member_or_null (codes "_id") v)) ++ before_rev) ++ compact (member_or_null (codes "_rev") v)) ++ 125 ∷ 125 ∷ [] ≡ out ++ compact (listed_row documents v)
unfolding escape_byte
row_parts true v out =
    with_doc out before_doc (compact v) (before_id true) (compact (member_or_null (codes "_id") v)) before_key before_rev (compact (member_or_null (codes "_rev") v)) (125 ∷ []) (125 ∷ [])
row_parts false v out =
    without_doc out (before_id false) (compact (member_or_null (codes "_id") v)) before_key before_rev (compact (member_or_null (codes "_rev") v)) (125 ∷ []) (125 ∷ [])

-- ---- one after the other

-- the text of these rows, and the closing bracket; `later`: the first row of the array is not among them
abbrev pub rows_left : Bool → Bool → List Shown → List ℕ
rows_left documents later docs = compact_items later (items_of (map (listed_row documents) (map shown_view docs)))

-- the text of one more row
pub rows_more : (documents : Bool) (docs : List Shown) (i : ℕ) (d : Shown) (all out comma text : List ℕ) → i < length docs → d ≡ get_or docs i d
    → comma ≡ cond (nat_lt 0 i) (44 ∷ []) [] → text ≡ (out ++ comma) ++ compact (listed_row documents (shown_view d))
    → all ≡ out ++ rows_left documents (nat_lt 0 i) (drop i docs) → all ≡ text ++ rows_left documents (nat_lt 0 (i + 1)) (drop (i + 1) docs)
rows_more documents docs i d all out comma text less is so s e =
    let row = compact (listed_row documents (shown_view d)) in
    let more = rows_left documents true (drop (i + 1) docs) in
    let later : nat_lt 0 (i + 1) ≡ true = grind (arith, nat_tests) in
    e ∙ ap (λ ds. out ++ rows_left documents (nat_lt 0 i) ds) (drop_more docs i d less ∙ ap (λ x. x ∷ drop (i + 1) docs) (sym is))
    ∙ ap (λ x. out ++ (x ++ (row ++ more))) (sym so)
    ∙ sym (append_assoc out comma (row ++ more))
    ∙ sym (append_assoc (out ++ comma) row more)
    ∙ ap₂ (λ t b. t ++ rows_left documents b (drop (i + 1) docs)) (sym s) (sym later)

-- after the last row, the closing bracket ends the text
pub rows_all : (documents : Bool) (docs : List Shown) (i : ℕ) (all out : List ℕ) → length docs ≤ i → all ≡ out ++ rows_left documents (nat_lt 0 i) (drop i docs) → out ++ 93 ∷ [] ≡ all
rows_all documents docs i all out le e = ap (λ ds. out ++ rows_left documents (nat_lt 0 i) ds) (sym (drop_all i docs le)) ∙ sym e

-- ---- the line

-- `{"offset":`, `,"rows":` and `,"total_rows":`
abbrev pub before_offset : List ℕ
before_offset = 123 ∷ 34 ∷ 111 ∷ 102 ∷ 102 ∷ 115 ∷ 101 ∷ 116 ∷ 34 ∷ 58 ∷ []

abbrev pub before_rows : List ℕ
before_rows = 44 ∷ 34 ∷ 114 ∷ 111 ∷ 119 ∷ 115 ∷ 34 ∷ 58 ∷ []

abbrev pub before_total : List ℕ
before_total = 44 ∷ 34 ∷ 116 ∷ 111 ∷ 116 ∷ 97 ∷ 108 ∷ 95 ∷ 114 ∷ 111 ∷ 119 ∷ 115 ∷ 34 ∷ 58 ∷ []

regrouped : (a n b r c m x y : List ℕ) → (((((a ++ n) ++ b) ++ r) ++ c) ++ m) ++ (x ++ y) ≡ (a ++ (n ++ (b ++ (r ++ (c ++ (m ++ x)))))) ++ y
regrouped a n b r c m x y = simp append_assoc

-- the parts of the line
pub line_parts : (offset total : ℕ) (rows : List Value)
    → (((((before_offset ++ compact (whole (pos offset))) ++ before_rows) ++ compact (list (items_of rows))) ++ before_total) ++ compact (whole (pos total))) ++ 125 ∷ 10 ∷ [] ≡ line_of (rows_value offset total rows)
unfolding escape_byte
line_parts offset total rows =
    regrouped before_offset (compact (whole (pos offset))) before_rows (compact (list (items_of rows))) before_total (compact (whole (pos total))) (125 ∷ []) (10 ∷ [])
