-- A bulk some of whose documents have a number that is not whole: each of these is refused by itself, and the others are executed.
use Rattle.std.specs.Prelude.{ℕ, Bool, true, ◌&&◌, List, [], ◌∷◌, ◌++◌, codes, Option, Some, None, is_some, option_and_then, if◌then◌else◌}
use Rattle.std.specs.Option.{option_to_list}
use Rattle.std.specs.Str.{is_utf8}
use Rattle.serde_json.specs.Data as parsed
use Rattle.serde_json.specs.Data.{Data, put}
use Rattle.serde_json.specs.Find.{as_array, as_object, as_str, get, get_member}
use Rattle.serde_json.specs.Read.{read}
use Rattle.mg_value.specs.Value.{Value, text, list, object, member, no_members, with_member}
use Rattle.mg_value.specs.View.{items_of}
use Rattle.mg_face.specs.Numbers.{value_of}

-- why it is refused
abbrev pub not_whole_reason : List ℕ
not_whole_reason = codes "numbers are whole here: a number of the document has a fraction, or more than 64 bits."

-- the entry of a refused document, with its id if it has one
abbrev pub not_whole_entry : Option (List ℕ) → Value
not_whole_entry (Some id) =
    object (member (codes "error") (text (codes "not_whole")) (member (codes "id") (text id) (member (codes "reason") (text not_whole_reason) no_members)))
not_whole_entry None = object (member (codes "error") (text (codes "not_whole")) (member (codes "reason") (text not_whole_reason) no_members))

-- the id of a document: a string
abbrev pub id_in : Data → Option (List ℕ)
id_in d = option_and_then as_str (get (codes "_id") d)

-- the entry of a document whose value is given, if it is refused: it has none
abbrev pub refusal_of : Data → Option Value → Option Value
refusal_of d (Some v) = None
refusal_of d None = Some (not_whole_entry (id_in d))

-- for each document, in order, its entry if it is refused
abbrev pub refusals_of : parsed.Items → List (Option Value)
refusals_of parsed.no_items = []
refusals_of (parsed.item d ds) = refusal_of d (value_of d) ∷ refusals_of ds

-- the documents that are executed
abbrev pub executed : parsed.Items → List Value
executed parsed.no_items = []
executed (parsed.item d ds) = option_to_list (value_of d) ++ executed ds

-- each item is a document: an object
abbrev pub are_documents : parsed.Items → Bool
are_documents parsed.no_items = true
are_documents (parsed.item d ds) = is_some (as_object d) && are_documents ds

-- the bulk of those of these documents that are executed, with the rest of a body, and the entries of the others; `None`: an item is no document
abbrev pub partial_with : Option parsed.Items → Option Value → Option (Value × List (Option Value))
partial_with (Some ds) (Some rest) =
    if are_documents ds then Some (with_member (codes "docs") (list (items_of (executed ds))) rest, refusals_of ds) else None
partial_with ds rest = None

-- the same of a body; `None`: it has no array of documents, or beside them a number that is not whole
abbrev pub partial_of : Data → Option (Value × List (Option Value))
partial_of (parsed.object ms) =
    partial_with (option_and_then as_array (get_member (codes "docs") ms)) (value_of (parsed.object (put (codes "docs") parsed.null ms)))
partial_of d = None

-- the same of the bytes of a body
abbrev pub partial_in : List ℕ → Option (Value × List (Option Value))
partial_in bytes = if is_utf8 bytes then option_and_then partial_of (read bytes) else None
