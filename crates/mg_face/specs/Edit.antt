-- One edit of a document: what `PUT` and `DELETE` of a document and `POST` to a database ask for.
use Rattle.std.specs.Prelude.{ℕ, Bool, true, false, ◌&&◌, ◌-◌, ◌==◌, List, [], ◌∷◌, length, take, drop, nat_le, bytes_eq, codes, find, slice_index, Option, Some, None, option_and_then, if◌then◌else◌}
use Rattle.std.specs.Option.{option_map}
use Rattle.std.specs.Str.Lossy.{utf8_lossy}
use Rattle.form_urlencoded.specs.Form.{decode, raw_pairs}
use Rattle.http1.specs.Fields.{Header}
use Rattle.http1.specs.Text.{eq_ignore_case}
use Rattle.mg_value.specs.Value.{Value, flag, text, object, no_members, member, member_of, with_member}

-- ---- the revision that a request names

-- the value of the first of these parameters that has this name
abbrev pub value_in_pairs : List ℕ → List (List ℕ × List ℕ) → Option (List ℕ)
value_in_pairs name [] = None
value_in_pairs name (pair ∷ pairs) =
    if bytes_eq (utf8_lossy (decode pair.0)) name then Some (utf8_lossy (decode pair.1)) else value_in_pairs name pairs

-- the value that a query gives the parameter of this name
abbrev pub value_in_query : List ℕ → List ℕ → Option (List ℕ)
value_in_query name query = value_in_pairs name (raw_pairs query)

-- the revision that a query names
abbrev pub revision_in_query : List ℕ → Option (List ℕ)
revision_in_query query = value_in_query (codes "rev") query

-- an entity tag without its quotes (RFC 9110, section 8.8.3); another text as it is
abbrev pub unquoted : List ℕ → List ℕ
unquoted tag =
    if nat_le 2 (length tag) && (slice_index tag 0 == 34 && slice_index tag (length tag - 1) == 34) then take (length tag - 2) (drop 1 tag)
    else tag

-- the value of the first field with this name, in any case
abbrev pub field_of : List ℕ → List Header → Option (List ℕ)
field_of name fields = option_map (λ h. h.1) (find (λ h. eq_ignore_case h.0 name) fields)

-- the revision that `If-Match` names
abbrev pub revision_in_fields : List Header → Option (List ℕ)
revision_in_fields fields = option_map (λ tag. utf8_lossy (unquoted tag)) (field_of (codes "if-match") fields)

-- ---- the document

-- a value that a document has at a name agrees with a text: it is this text, or absent
abbrev pub agrees : List ℕ → Option Value → Bool
agrees s None = true
agrees s (Some (text t)) = bytes_eq s t
agrees s (Some v) = false

-- the document with a text at a name, if one is given; `None`: it has another value there
abbrev pub with_given : List ℕ → Option (List ℕ) → Value → Option Value
with_given name None v = Some v
with_given name (Some s) v = if agrees s (member_of name v) then Some (with_member name (text s) v) else None

-- the document with the revisions that a query and `If-Match` name; `None`: two revisions disagree
abbrev pub with_revisions : Option (List ℕ) → Option (List ℕ) → Value → Option Value
with_revisions query tag v = option_and_then (with_given (codes "_rev") tag) (with_given (codes "_rev") query v)

-- the document of a deletion
abbrev pub deletion : Value
deletion = object (member (codes "_deleted") (flag true) no_members)
