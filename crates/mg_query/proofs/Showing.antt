-- What a page shows of the documents that hits lend, one by one, as values and as text.
use Rattle.std.proofs.Common.{◌≡◌, ℕ, ◌+◌, ◌<◌, ◌≤◌, Bool, true, false, ◌&&◌, ◌==◌, not, cond, List, [], ◌∷◌, ◌++◌, append_assoc, append-nil, Option, Some, None, Result, Ok, Err, get_or, length, map, drop, nat_lt, refl, sym, ap, ap₂, ◌∙◌, subst, arith}
use Rattle.std.proofs.lemmas.Bool.Decides.{nat_tests}
use Rattle.std.specs.Option.{option_map_or}
use Rattle.std.specs.Prelude.{IfOk, IfSome, slice_get, ◌-◌}
use Rattle.json.specs.Print.{escape_byte, quoted}
use Rattle.mg_value.specs.Text.{compact, compact_items}
use Rattle.mg_value.specs.Value.{Value, list}
use Rattle.mg_value.specs.View.{items_of}
use Rattle.mg_bookmark.specs.Bookmark.{spelled}
use Rattle.mg_collate.specs.Row.{RowValue}
use Rattle.mg_index.specs.Choice.{Source}
use Rattle.mg_index.specs.Definition.{Steps}
use Rattle.mg_revtree.specs.History.{Paths}
use Rattle.mg_revtree.specs.Tree.{StandsFor, Tree}
use Rattle.mg_scan.specs.Hit.{hit_form, hit_kept, hit_row}
use Rattle.mg_scan.specs.declared.hit.Hit.{Hit}
use Rattle.mg_shard.specs.Documents.{KeptDocument}
use Rattle.mg_query.specs.Page.{Candidate, bookmark_after, bookmark_at, source_columns, ddoc_of, name_of, page_value, projected, shown_of}
use Rattle.mg_query.specs.Lent.{LendEach, Lends, shows_whole}
use Rattle.mg_query.specs.Query.{Query}
use Rattle.mg_query.proofs.Lent.{lends_last, lends_next, lends_no_more, lends_none}

-- if Q follows from P, it holds of a result of which P holds
pub ok_weaker : {X E : Type 0} (r : Result X E) (P Q : X → Type 0) → ((x : X) → P x → Q x) → IfOk r P → IfOk r Q
ok_weaker (Ok x) P Q f h = f x h
ok_weaker (Err e) P Q f h = h

-- ---- one document

pub same_form : (x y : Value) → Some x ≡ Some y → x ≡ y
same_form x y e = cc

-- what is shown of a hit's form and tree is what is shown of the candidate that the hit lends
pub shown_hit : (q : Query) (columns : List Steps) (h : Hit) (c : Candidate) (form : Value) (kept : KeptDocument) (tree : Tree) (v : Value)
    → ((id : List ℕ) (p : Paths) → StandsFor tree p → v ≡ shown_of q (record { id = id; form = form; history = p })) → Some form ≡ hit_form h → Some kept ≡ hit_kept h → tree ≡ kept.0 → Lends columns h c → v ≡ shown_of q c
shown_hit q columns h c form kept tree v s f k t l =
    let there : StandsFor kept.0 c.history = subst (λ (o : Option KeptDocument). IfSome o (λ d. StandsFor d.0 c.history)) (sym k) l.tree in
    s c.id c.history (subst (λ x. StandsFor x c.history) (sym t) there) ∙ ap (λ x. shown_of q (record { id = c.id; form = x; history = c.history })) (same_form form c.form (f ∙ l.form))

whole_if : (conflicts : Bool) (fields : List Steps) (a b : Value) → (not conflicts && (length fields == 0)) ≡ true → projected fields (cond conflicts a b) ≡ b
whole_if true fields a b e = absurd cc
whole_if false [] a b e = refl
whole_if false (f ∷ fields) a b e = absurd (grind (arith, nat_tests, e))

plain_if : (conflicts : Bool) (fields : List Steps) (a b : Value) → conflicts ≡ false → projected fields (cond conflicts a b) ≡ projected fields b
plain_if true fields a b e = absurd cc
plain_if false fields a b e = refl

-- a document that is shown without its conflicts
pub shown_plain : (q : Query) (c : Candidate) → q.conflicts ≡ false → shown_of q c ≡ projected q.fields c.form
shown_plain q c e = plain_if q.conflicts q.fields _ c.form e

-- a document that is shown whole is shown as it is served
pub shown_whole : (q : Query) (c : Candidate) → shows_whole q ≡ true → shown_of q c ≡ c.form
shown_whole q c e = whole_if q.conflicts q.fields _ c.form e

-- ---- one after the other

-- the value of one more document
pub shown_more : (q : Query) (columns : List Steps) (hits : List Hit) (cs : List Candidate) (i : ℕ) (h : Hit) (before : List Value) (v : Value) → LendEach columns hits cs → i < length hits → h ≡ get_or hits i h
    → ((c : Candidate) → Lends columns h c → v ≡ shown_of q c) → before ++ map (shown_of q) (drop i cs) ≡ map (shown_of q) cs → (before ++ v ∷ []) ++ map (shown_of q) (drop (i + 1) cs) ≡ map (shown_of q) cs
shown_more q columns hits cs i h before v l less is s e =
    let next = lends_next columns hits cs i h l less is in
    append_assoc before (v ∷ []) (map (shown_of q) (drop (i + 1) cs))
    ∙ ap (λ x. before ++ x ∷ map (shown_of q) (drop (i + 1) cs)) (s next.0 next.1)
    ∙ ap (λ xs. before ++ map (shown_of q) xs) (sym next.2) ∙ e

-- after the last document all values are there
pub shown_all : (q : Query) (columns : List Steps) (hits : List Hit) (cs : List Candidate) (i : ℕ) (values : List Value) → LendEach columns hits cs → length hits ≤ i
    → values ++ map (shown_of q) (drop i cs) ≡ map (shown_of q) cs → values ≡ map (shown_of q) cs
shown_all q columns hits cs i values l le e =
    sym (append-nil values) ∙ ap (λ xs. values ++ map (shown_of q) xs) (sym (lends_no_more columns hits cs i l le)) ∙ e

-- ---- their texts

abbrev rest_text : Query → Bool → List Candidate → List ℕ
rest_text q later cs = compact_items later (items_of (map (shown_of q) cs))

-- the text of one more document
pub text_more : (q : Query) (columns : List Steps) (hits : List Hit) (cs : List Candidate) (i : ℕ) (h : Hit) (all out comma text : List ℕ) → LendEach columns hits cs → i < length hits → h ≡ get_or hits i h
    → comma ≡ cond (nat_lt 0 i) (44 ∷ []) [] → ((c : Candidate) → Lends columns h c → text ≡ (out ++ comma) ++ compact (shown_of q c))
    → all ≡ out ++ compact_items (nat_lt 0 i) (items_of (map (shown_of q) (drop i cs)))
    → all ≡ text ++ compact_items (nat_lt 0 (i + 1)) (items_of (map (shown_of q) (drop (i + 1) cs)))
text_more q columns hits cs i h all out comma text l less is so s e =
    let next = lends_next columns hits cs i h l less is in
    let c = next.0 in
    let more = rest_text q true (drop (i + 1) cs) in
    let later : nat_lt 0 (i + 1) ≡ true = grind (arith, nat_tests) in
    e ∙ ap (λ xs. out ++ rest_text q (nat_lt 0 i) xs) next.2
    ∙ ap (λ x. out ++ (x ++ (compact (shown_of q c) ++ more))) (sym so)
    ∙ sym (append_assoc out comma (compact (shown_of q c) ++ more))
    ∙ sym (append_assoc (out ++ comma) (compact (shown_of q c)) more)
    ∙ ap₂ (λ t b. t ++ rest_text q b (drop (i + 1) cs)) (sym (s c next.1)) (sym later)

-- after the last document, the closing bracket ends the text
pub text_all : (q : Query) (columns : List Steps) (hits : List Hit) (cs : List Candidate) (i : ℕ) (all out : List ℕ) → LendEach columns hits cs → length hits ≤ i
    → all ≡ out ++ compact_items (nat_lt 0 i) (items_of (map (shown_of q) (drop i cs))) → out ++ 93 ∷ [] ≡ all
text_all q columns hits cs i all out l le e = ap (λ xs. out ++ rest_text q (nat_lt 0 i) xs) (sym (lends_no_more columns hits cs i l le)) ∙ sym e

-- the opening bracket begins the text
pub text_first : (q : Query) (cs : List Candidate) (out begun : List ℕ) → begun ≡ out ++ 91 ∷ [] → out ++ compact (list (items_of (map (shown_of q) cs))) ≡ begun ++ compact_items (nat_lt 0 0) (items_of (map (shown_of q) cs))
text_first q cs out begun e = sym (append_assoc out (91 ∷ []) (rest_text q false cs)) ∙ ap (λ t. t ++ rest_text q false cs) (sym e)

-- ---- the bookmark

-- the bookmark of the last hit
pub bookmark_last : (s : Source) (q : Query) (hits : List Hit) (cs : List Candidate) (h : Hit) (mark : List ℕ) → LendEach (source_columns s) hits cs → slice_get hits (length hits - 1) ≡ Some h
    → mark ≡ spelled (record { ddoc = ddoc_of s; name = name_of s; direction = q.direction; key = (hit_row h).0; id = (hit_row h).1 }) → mark ≡ bookmark_after s q cs
bookmark_last s q hits cs h mark l e m =
    let last = lends_last (source_columns s) hits cs h l e in
    m ∙ ap (λ (r : RowValue). spelled (record { ddoc = ddoc_of s; name = name_of s; direction = q.direction; key = r.0; id = r.1 })) last.1.row
    ∙ ap (λ (o : Option Candidate). option_map_or (bookmark_at s q) o q.given_bookmark) (sym last.2)

-- the bookmark without a hit
pub bookmark_none : (s : Source) (q : Query) (hits : List Hit) (cs : List Candidate) (mark : List ℕ) → LendEach (source_columns s) hits cs → slice_get hits (length hits - 1) ≡ None → mark ≡ q.given_bookmark → mark ≡ bookmark_after s q cs
bookmark_none s q hits cs mark l e m =
    m ∙ ap (λ (o : Option Candidate). option_map_or (bookmark_at s q) o q.given_bookmark) (sym (lends_none (source_columns s) hits cs l e))

-- ---- the page

regrouped : (p q r d e : List ℕ) → (((p ++ q) ++ r) ++ d) ++ e ≡ p ++ (q ++ (r ++ (d ++ e)))
regrouped p q r d e = simp append_assoc

-- the text before the bookmark, `{"bookmark":`, and between it and the documents, `,"docs":`
abbrev pub before_mark : List ℕ
before_mark = 123 ∷ 34 ∷ 98 ∷ 111 ∷ 111 ∷ 107 ∷ 109 ∷ 97 ∷ 114 ∷ 107 ∷ 34 ∷ 58 ∷ []

abbrev pub before_docs : List ℕ
before_docs = 44 ∷ 34 ∷ 100 ∷ 111 ∷ 99 ∷ 115 ∷ 34 ∷ 58 ∷ []

-- the parts of a page's text
pub page_parts : (mark : List ℕ) (docs : List Value)
    → (((before_mark ++ quoted mark) ++ before_docs) ++ compact (list (items_of docs))) ++ 125 ∷ [] ≡ compact (page_value (record { docs = docs; bookmark = mark }))
unfolding escape_byte
page_parts mark docs = regrouped before_mark (quoted mark) before_docs (compact (list (items_of docs))) (125 ∷ [])
