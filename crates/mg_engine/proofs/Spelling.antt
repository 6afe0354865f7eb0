-- In the worlds that commands leave, JSON text can carry the place of each document in each index.
use Rattle.std.proofs.Common.{◌≡◌, ℕ, Bool, true, false, cond, List, [], ◌∷◌, ◌++◌, Option, Some, None, unwrap_or, codes, IsUtf8, Result, Ok, Err, Ordering, Less, Equal, Greater, refl, ap, subst, arith}
use Rattle.std.proofs.lemmas.Str.{IsUtf8-append}
use Rattle.std.specs.List.{AllByRecursion, filter, starts_with}
use Rattle.std.specs.Option.{option_map_or}
use Rattle.std.specs.Ordering.{match_ordering}
use Rattle.std.specs.Prelude.{nat_eq, ok_or}
use Rattle.json.proofs.Printed.Utf8.{IsUtf8-are_ascii}
use Rattle.mg_value.specs.Results.{◌>>=◌}
use Rattle.mg_value.specs.Stored.{IsStored}
use Rattle.mg_value.specs.Value.{Value, null, flag, whole, text, list, object, member_of}
use Rattle.mg_collate.specs.Sorted.{sorted}
use Rattle.mg_normal.specs.Atoms.{atoms_of}
use Rattle.mg_index.specs.Catalog.{definition_order, is_named, with_definition, without_definition}
use Rattle.mg_index.specs.Choice.{Source, all_docs, defined, all_docs_usable, is_usable, least, or_all_docs, preference, usable_of}
use Rattle.mg_index.specs.Definition.{IndexDefinition, Steps, design_document, design_prefix, fields_digest}
use Rattle.mg_index.specs.Reading.{Columns, columns_read, definition_named, definition_of, is_json_index, member_of_index, text_given}
use Rattle.mg_index.specs.declared.error.IndexError.{IndexError}
use Rattle.mg_index.specs.declared.error.IndexError.TheVariants.{Shape}
use Rattle.mg_query.specs.Laws.{PlaceCanBeSpelled, from_first, place_at}
use Rattle.mg_query.specs.Page.{Candidate, candidates_found, candidates_of, ddoc_of, is_after, is_asked, name_of, order_by, served_by, source_columns}
use Rattle.mg_query.specs.Query.{Query}
use Rattle.mg_query.proofs.Chained.{all_kept, all_sorted}
use Rattle.mg_query.proofs.Serving.{choice_served}
use Rattle.mg_query.proofs.Usable.{least_has}
use Rattle.mg_engine.specs.Bulk.{BulkEdits, bulk_read}
use Rattle.mg_engine.specs.Commands.{Asked, bulk, create_index, drop_index, list_indexes, find, explain, get, reshard, bulk_effect, next, world_after, world_defined}
use Rattle.mg_engine.specs.Laws.{CanBeCarried}
use Rattle.mg_engine.specs.World.{World, empty_world}
use Rattle.mg_engine.specs.declared.refusal.Refusal.{Refusal}
use Rattle.mg_engine.proofs.Carried.{HistoriesAreCarried, IsCarried, after_carried, all_named, candidates_carried, hex_utf8, none_carried, read_carried}
use Rattle.mg_engine.proofs.Spelled.{items_held, key_stored, member_got, text_utf8, the_some}

-- ---- definitions of indexes

-- the design document and the name are UTF-8
abbrev IsNamedByText : IndexDefinition → Type 0
IsNamedByText d = IsUtf8 d.ddoc × IsUtf8 d.name

in_document : (b : Bool) (s : List ℕ) → IsUtf8 s → IsUtf8 (cond b s (design_prefix ++ s))
in_document true s h = h
in_document false s h = IsUtf8-append design_prefix s (IsUtf8-are_ascii (codes "_design/") refl) h

document_utf8 : (o : Option (List ℕ)) (digest : List ℕ) → ((s : List ℕ) → o ≡ Some s → IsUtf8 s) → IsUtf8 digest → IsUtf8 (option_map_or design_document o (design_prefix ++ digest))
document_utf8 None digest f h = IsUtf8-append design_prefix digest (IsUtf8-are_ascii (codes "_design/") refl) h
document_utf8 (Some s) digest f h = in_document (starts_with nat_eq s design_prefix) s (f s refl)

or_utf8 : (o : Option (List ℕ)) (digest : List ℕ) → ((s : List ℕ) → o ≡ Some s → IsUtf8 s) → IsUtf8 digest → IsUtf8 (unwrap_or o digest)
or_utf8 None digest f h = h
or_utf8 (Some s) digest f h = f s refl

given_utf8 : (o : Option Value) (x : Option (List ℕ)) (s : List ℕ) → ((w : Value) → o ≡ Some w → IsStored w) → text_given o ≡ Some x → x ≡ Some s → IsUtf8 s
given_utf8 None x s h e k = absurd cc
given_utf8 (Some (text (c ∷ t))) x s h e k = let same : c ∷ t ≡ s = cc in subst IsUtf8 same (h (text (c ∷ t)) refl)
given_utf8 (Some (text [])) x s h e k = absurd cc
given_utf8 (Some null) x s h e k = absurd cc
given_utf8 (Some (flag b)) x s h e k = absurd cc
given_utf8 (Some (whole z)) x s h e k = absurd cc
given_utf8 (Some (list vs)) x s h e k = absurd cc
given_utf8 (Some (object ms)) x s h e k = absurd cc

the_definition : (x y : IndexDefinition) → ◌≡◌ {A = Result IndexDefinition IndexError} (Ok x) (Ok y) → x ≡ y
the_definition x y e = ap (λ r. ok_in r x) e
  where
    ok_in : Result IndexDefinition IndexError → IndexDefinition → IndexDefinition
    ok_in (Ok d) x = d
    ok_in (Err e) x = x

named_utf8 : (b : Bool) (o p : Option (Option (List ℕ))) (r : Result Columns IndexError) (d : IndexDefinition)
    → ((x : Option (List ℕ)) (s : List ℕ) → o ≡ Some x → x ≡ Some s → IsUtf8 s) → ((x : Option (List ℕ)) (s : List ℕ) → p ≡ Some x → x ≡ Some s → IsUtf8 s)
    → cond b (ok_or o Shape >>= (λ ddoc. ok_or p Shape >>= (λ name. r >>= (λ columns. Ok (definition_named ddoc name columns))))) (Err Shape) ≡ Ok d → IsNamedByText d
named_utf8 true (Some x) (Some y) (Ok c) d f g e =
    subst IsNamedByText (the_definition (definition_named x y c) d e)
    (document_utf8 x (fields_digest c.direction c.texts) (λ s k. f x s refl k) (hex_utf8 _), or_utf8 y (fields_digest c.direction c.texts) (λ s k. g y s refl k) (hex_utf8 _))
named_utf8 true (Some x) (Some y) (Err c) d f g e = absurd cc
named_utf8 true (Some x) None r d f g e = absurd cc
named_utf8 true None p r d f g e = absurd cc
named_utf8 false o p r d f g e = absurd cc

definition_utf8 : (v : Value) (d : IndexDefinition) → IsStored v → definition_of v ≡ Ok d → IsNamedByText d
definition_utf8 v d h e =
    let given = λ (name : List ℕ) (x : Option (List ℕ)) (s : List ℕ). given_utf8 (member_of name v) x s (λ w k. (member_got name v w h k).0) in
    named_utf8 (is_json_index v) (text_given (member_of (codes "ddoc") v)) (text_given (member_of (codes "name") v)) (columns_read (member_of_index (codes "fields") v)) d
    (given (codes "ddoc")) (given (codes "name")) e

abbrev AreNamedByText : List IndexDefinition → Type 0
AreNamedByText ds = AllByRecursion IsNamedByText ds

with_by : (o : Ordering) (d e : IndexDefinition) (es ds : List IndexDefinition) → IsNamedByText d → IsNamedByText e → AreNamedByText es → AreNamedByText ds → AreNamedByText (match_ordering o (d ∷ e ∷ es) (d ∷ es) (e ∷ ds))
with_by Less d e es ds h k a b = (h, (k, a))
with_by Equal d e es ds h k a b = (h, a)
with_by Greater d e es ds h k a b = (k, b)

all_with : (d : IndexDefinition) (ds : List IndexDefinition) → IsNamedByText d → AreNamedByText ds → AreNamedByText (with_definition d ds)
all_with d [] h a = (h, tt)
all_with d (e ∷ es) h a = with_by (definition_order d e) d e es (with_definition d es) h a.0 a.1 (all_with d es h a.1)

without_by : (b : Bool) (d : IndexDefinition) (ds es : List IndexDefinition) → IsNamedByText d → AreNamedByText ds → AreNamedByText es → AreNamedByText (cond b ds (d ∷ es))
without_by true d ds es h a b = a
without_by false d ds es h a b = (h, b)

all_without : (ddoc name : List ℕ) (ds : List IndexDefinition) → AreNamedByText ds → AreNamedByText (without_definition ddoc name ds)
all_without ddoc name [] a = tt
all_without ddoc name (d ∷ ds) a = without_by (is_named ddoc name d) d ds (without_definition ddoc name ds) a.0 a.1 (all_without ddoc name ds a.1)

-- ---- the index that serves a query

-- JSON text can carry the index's part of a place
abbrev SourceIsCarried : Source → Type 0
SourceIsCarried s = IsUtf8 (unwrap_or (ddoc_of s) []) × IsUtf8 (name_of s)

all_docs_carried : SourceIsCarried all_docs
all_docs_carried = (IsUtf8-are_ascii [] refl, IsUtf8-are_ascii (codes "_all_docs") refl)

by_id : (b : Bool) (s : Source) → cond b (Some all_docs) None ≡ Some s → SourceIsCarried s
by_id true s e = subst SourceIsCarried (the_some all_docs s e) all_docs_carried
by_id false s e = absurd cc

chosen : (sort : List Steps) (o : Option IndexDefinition) (s : Source) → ((d : IndexDefinition) → o ≡ Some d → IsNamedByText d) → or_all_docs sort o ≡ Some s → SourceIsCarried s
chosen sort None s f e = by_id (all_docs_usable sort) s e
chosen sort (Some d) s f e = subst SourceIsCarried (the_some (defined d) s e) (f d refl)

source_carried : (ds : List IndexDefinition) (q : Query) (s : Source) → AreNamedByText ds → served_by ds q ≡ Ok s → SourceIsCarried s
source_carried ds q s a e =
    let atoms = atoms_of q.selector in
    chosen q.sort (least (preference atoms q.hint) (usable_of atoms q.sort ds)) s
    (λ d k. least_has IsNamedByText (preference atoms q.hint) (usable_of atoms q.sort ds) (all_kept IsNamedByText (λ x. is_usable atoms q.sort x.columns) ds a) d k) (choice_served ds q s e)

-- ---- the places of documents

place_carried : (s : Source) (q : Query) (c : Candidate) → SourceIsCarried s → IsCarried c → PlaceCanBeSpelled s q c
place_carried s q c h k =
    let key = key_stored c (source_columns s) k.1.0 in
    record {
      shallow = omega (arith, key.1, k.1.1);
      held = items_held (place_at s q c).key key.0;
      key = text_utf8 (list (place_at s q c).key) key.0;
      ddoc = h.0;
      name = h.1;
      id = k.0;
    }

all_places : (s : Source) (q : Query) (cs : List Candidate) → SourceIsCarried s → AllByRecursion IsCarried cs → AllByRecursion (PlaceCanBeSpelled s q) cs
all_places s q [] h k = tt
all_places s q (c ∷ cs) h k = (place_carried s q c h k.0, all_places s q cs h k.1)

-- ---- worlds

-- JSON text can carry the documents, and the names of the indexes
record WorldIsCarried (w : World) : Type 0 where
  docs : HistoriesAreCarried w.docs
  indexes : AreNamedByText w.indexes

bulk_leaves : (w : World) (r : Result BulkEdits Refusal) → WorldIsCarried w → ((b : BulkEdits) → r ≡ Ok b → HistoriesAreCarried (bulk_effect w (Ok b)).world.docs) → WorldIsCarried (bulk_effect w r).world
bulk_leaves w (Ok b) h f = record { docs = f b refl; indexes = h.indexes }
bulk_leaves w (Err x) h f = h

defined_leaves : (w : World) (r : Result IndexDefinition IndexError) → WorldIsCarried w → ((d : IndexDefinition) → r ≡ Ok d → IsNamedByText d) → WorldIsCarried (world_defined w r)
defined_leaves w (Ok d) h f = record { docs = h.docs; indexes = all_with d w.indexes (f d refl) h.indexes }
defined_leaves w (Err x) h f = h

next_carried : (w : World) (c : Asked) → WorldIsCarried w → CanBeCarried c → WorldIsCarried (next w c)
next_carried w (bulk v) h k = bulk_leaves w (bulk_read v) h (λ b e. after_carried w.docs _ h.docs (all_named w.counter b.edits (read_carried v b k e)))
next_carried w (create_index v) h k = defined_leaves w (definition_of v) h (λ d e. definition_utf8 v d k e)
next_carried w (drop_index ddoc name) h k = record { docs = h.docs; indexes = all_without (design_document ddoc) name w.indexes h.indexes }
next_carried w list_indexes h k = h
next_carried w (find v) h k = h
next_carried w (explain v) h k = h
next_carried w (get id conflicts) h k = h
next_carried w (reshard v) h k = h

after_all : (w : World) (cs : List Asked) → WorldIsCarried w → AllByRecursion CanBeCarried cs → WorldIsCarried (world_after w cs)
after_all w [] h k = h
after_all w (c ∷ cs) h k = after_all (next w c) cs (next_carried w c h k.0) k.1

-- in the world that commands leave, JSON text can carry the place of each document that a query finds
pub places_carried : (name : List ℕ) (cs : List Asked) (s : Source) (q : Query) → AllByRecursion CanBeCarried cs → served_by (world_after (empty_world name) cs).indexes (from_first q) ≡ Ok s
    → AllByRecursion (PlaceCanBeSpelled s q) (candidates_found (source_columns s) (from_first q) (candidates_of (world_after (empty_world name) cs).docs))
places_carried name cs s q k e =
    let w = world_after (empty_world name) cs in
    let h : WorldIsCarried w = after_all (empty_world name) cs (record { docs = none_carried; indexes = tt }) k in
    let columns = source_columns s in
    let asked = from_first q in
    let order = order_by columns asked.direction in
    let found = filter (is_asked asked) (candidates_of w.docs) in
    all_places s q (candidates_found columns asked (candidates_of w.docs)) (source_carried w.indexes asked s h.indexes e)
    (all_kept IsCarried (is_after columns asked) (sorted order found) (all_sorted IsCarried order found (all_kept IsCarried (is_asked asked) (candidates_of w.docs) (candidates_carried w.docs h.docs))))
