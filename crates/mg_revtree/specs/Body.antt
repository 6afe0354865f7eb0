-- The form in which a document is served, after CouchDB's `GET` of a document: the body of its winner with the document's id and the
-- winner's revision.
use Rattle.std.specs.Prelude.{◌≡◌, codes, None}
use Rattle.mg_value.specs.Value.{Value, member_of, with_member, without_member}

-- the form of a body, with this id as `_id` and this revision as `_rev`; a body that is not an object is its own form
abbrev pub as_form : Value → Value → Value → Value
as_form id rev body = with_member (codes "_id") id (with_member (codes "_rev") rev body)

-- a form without its id and its revision
abbrev pub bare : Value → Value
bare form = without_member (codes "_rev") (without_member (codes "_id") form)

-- the form is this body with some id and some revision
abbrev pub IsFormOf : Value → Value → Type 0
IsFormOf body form = (id : Value) × (rev : Value) × (form ≡ as_form id rev body)

-- the body has neither `_id` nor `_rev` as a member
abbrev pub IsBare : Value → Type 0
IsBare body = (member_of (codes "_id") body ≡ None) × (member_of (codes "_rev") body ≡ None)
