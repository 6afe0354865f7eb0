-- Hits one after another, and the rows of documents.
use Rattle.std.proofs.Common.{◌≡◌, ℕ, ◌+◌, ◌-◌, Bool, true, false, List, [], ◌∷◌, ◌++◌, Option, Some, None, is_some, option_map, length, refl, ap, sym, ◌∙◌, arith, if◌then◌else◌}
use Rattle.mg_scan.specs.Hit.{AreHitsOf, IsHitOf, hit_row, hit_rows}
use Rattle.mg_scan.specs.Walked.{holds_at}
use Rattle.mg_scan.proofs.Entries.{entry_row}
use Rattle.mg_normal.specs.Normal.{NormalForm, normal_holds}
use Rattle.std.specs.FinMap.{get}
use Rattle.std.specs.Option.{option_and_then, option_map_or}
use Rattle.mg_scan.specs.declared.hit.Hit.{Hit}
use Rattle.mg_scan.specs.Decided.{everything}
use Rattle.mg_shard.specs.Documents.{KeptDocument, KeptDocuments, form_at, kept_entry, form_of, id_bytes, kept_of}
use Rattle.mg_shard.specs.Own.{id_columns}
use Rattle.mg_shard.specs.Rows.{row_key, row_of}
use Rattle.mg_shard.specs.Shard.{ShardView}
use Rattle.mg_shard.specs.declared.document.Document.{Document}
use Rattle.mg_value.specs.Value.{Value, Items}

pub if_some : {X : Type 0} (b : Bool) (x y : X) → Some x ≡ (if b then Some y else None) → (b ≡ true) × (x ≡ y)
if_some true x y e = (refl, cc)
if_some false x y e = absurd cc

pub if_none : {X : Type 0} (b : Bool) (y : X) → None ≡ (if b then Some y else None) → b ≡ false
if_none true y e = absurd cc
if_none false y e = refl

-- ---- hits one after another

pub rows-push : (hits : List Hit) (hit : Hit) → hit_rows (hits ++ hit ∷ []) ≡ hit_rows hits ++ hit_row hit ∷ []
rows-push [] hit = refl
rows-push (h ∷ hits) hit = ap (λ rs. hit_row h ∷ rs) (rows-push hits hit)

pub hits-push : (s : ShardView) (hits : List Hit) (hit : Hit) → AreHitsOf s hits → IsHitOf s hit → AreHitsOf s (hits ++ hit ∷ [])
hits-push s [] hit h k = (k, tt)
hits-push s (x ∷ hits) hit h k = (h.0, hits-push s hits hit h.1 k)

pub length-push : (hits : List Hit) (hit : Hit) → length (hits ++ hit ∷ []) ≡ length hits + 1
length-push [] hit = refl
length-push (h ∷ hits) hit = let e = length-push hits hit in omega (arith, e)

-- ---- documents

pub keyed : (id : List ℕ) (o : Option Value) → option_and_then (row_of id_columns) (option_map (λ form. (id, form)) o) ≡ option_map (λ key. (key, id)) (option_and_then (row_key id_columns) o)
keyed id None = refl
keyed id (Some form) = refl

-- the row of a document, by the key that it lends
pub row_lent : (d : Document) (o : Option Items) → o ≡ option_and_then (row_key id_columns) (form_of d) → entry_row (kept_entry d) ≡ option_map (λ key. (key, id_bytes d)) o
row_lent d o e = keyed (id_bytes d) (form_of d) ∙ ap (option_map (λ key. (key, id_bytes d))) (sym e)

-- the selector holds of a document exactly if it holds at the document's id
pub holds_of : (normal : NormalForm) (ds : KeptDocuments) (d : Document) → get ds (id_bytes d) ≡ Some (kept_of d)
    → option_map_or (λ form. normal_holds normal (Some form)) (form_of d) false ≡ holds_at normal ds (id_bytes d)
holds_of normal ds d e = ap (λ o. option_map_or (λ form. normal_holds normal (Some form)) (option_and_then (λ (k : KeptDocument). k.1) o) false) (sym e)

-- a document that has a key matches `everything`
pub keyed_holds : (o : Option Value) (key : Items) → Some key ≡ option_and_then (row_key id_columns) o → option_map_or (λ form. normal_holds everything (Some form)) o false ≡ true
keyed_holds None key e = absurd cc
keyed_holds (Some form) key e = refl

form_there : (o : Option Value) (key : Items) → Some key ≡ option_and_then (row_key id_columns) o → is_some o ≡ true
form_there None key e = absurd cc
form_there (Some form) key e = refl

-- a document that is kept and has a key is served
pub keyed_served : (ds : KeptDocuments) (d : Document) (key : Items) → get ds (id_bytes d) ≡ Some (kept_of d) → Some key ≡ option_and_then (row_key id_columns) (form_of d) → is_some (form_at ds (id_bytes d)) ≡ true
keyed_served ds d key kept e = ap (λ (o : Option KeptDocument). is_some (option_and_then (λ (k : KeptDocument). k.1) o)) kept ∙ form_there (form_of d) key e

-- a document that is served matches `everything`
pub served_holds : (o : Option Value) → is_some o ≡ true → option_map_or (λ form. normal_holds everything (Some form)) o false ≡ true
served_holds None e = absurd cc
served_holds (Some form) e = refl
