-- One document after others of a bulk; and the bulk that a text gives.
use Rattle.std.proofs.Common.{◌≡◌, List, [], ◌∷◌, ◌++◌, ◌&&◌, Option, Some, None, Bool, true, false, is_some, refl, ap, sym, append_assoc}
use Rattle.std.specs.Prelude.{ℕ, option_and_then, if◌then◌else◌, IsUtf8}
use Rattle.std.specs.List.{list_all}
use Rattle.std.specs.Str.{is_utf8}
use Rattle.std.proofs.lemmas.Str.{is_utf8-from_IsUtf8, IsUtf8-from_is_utf8}
use Rattle.serde_json.specs.Read.{read}
use Rattle.serde_json.specs.Data as parsed
use Rattle.serde_json.specs.Data.{Data}
use Rattle.serde_json.specs.Find.{as_object}
use Rattle.serde_json.specs.View.{view, items_view}
use Rattle.serde_json.specs.declared.value.Value as json
use Rattle.mg_value.specs.Value.{Value}
use Rattle.mg_face.specs.Bulk.{are_documents, executed, refusals_of, partial_of, partial_in}
use Rattle.mg_face.specs.Numbers.{value_of}

pub executed_next : (found : List Value) (d : Data) (ds : parsed.Items) (v : Value) → value_of d ≡ Some v
    → found ++ executed (parsed.item d ds) ≡ (found ++ v ∷ []) ++ executed ds
executed_next found d ds v is = rw is (sym (append_assoc found (v ∷ []) (executed ds)))

pub refusal_next : (refusals : List (Option Value)) (d : Data) (ds : parsed.Items) (v : Value) → value_of d ≡ Some v
    → refusals ++ refusals_of (parsed.item d ds) ≡ (refusals ++ None ∷ []) ++ refusals_of ds
refusal_next refusals d ds v is = rw is (sym (append_assoc refusals (None ∷ []) (refusals_of ds)))

pub all_documents : (vs : List json.Value) → list_all (λ v. is_some (as_object (view v))) vs ≡ are_documents (items_view vs)
all_documents [] = refl
all_documents (v ∷ vs) = ap (λ b. is_some (as_object (view v)) && b) (all_documents vs)

pub partial_text : (bytes : List ℕ) (d : Data) → IsUtf8 bytes → read bytes ≡ Some d → partial_in bytes ≡ partial_of d
partial_text bytes d utf8 text = rw (is_utf8-from_IsUtf8 bytes utf8, text) refl

no_partial_if : (bytes : List ℕ) (b : Bool) → is_utf8 bytes ≡ b → (IsUtf8 bytes → read bytes ≡ None) → (if b then option_and_then partial_of (read bytes) else None) ≡ None
no_partial_if bytes true is none = rw (none (IsUtf8-from_is_utf8 bytes is)) refl
no_partial_if bytes false is none = refl

pub no_partial : (bytes : List ℕ) → (IsUtf8 bytes → read bytes ≡ None) → partial_in bytes ≡ None
no_partial bytes none = no_partial_if bytes (is_utf8 bytes) refl none
