-- What a service may respond.
use Rattle.std.specs.Prelude.{◌≡◌, ◌⊎◌, ℕ, ◌<◌, true, false, List, [], ◌∷◌, ◌++◌, length, Option, Some, None, codes, if◌then◌else◌}
use Rattle.http1.specs.Fields.{Header}
use Rattle.httpdate.specs.declared.date.HttpDate.{HttpDate as Date}
use Rattle.httpdate.specs.Date.{date_text}
use Rattle.mg_wire.specs.declared.fields.TheConstants.{MAX_RESPONSE_FIELDS, MAX_LINES_LEN}
use Rattle.mg_wire.specs.declared.fields.FieldError.{FieldError}
use Rattle.mg_wire.specs.declared.fields.FieldError.TheVariants.{Invalid, Full, NoMemory}
use Rattle.mg_wire.specs.declared.fields.Fields.{Fields}
use Rattle.mg_wire.specs.declared.response.Response.{Response}
use Rattle.mg_wire.specs.declared.status.Status.TheVariants as Is
use Rattle.mg_wire.specs.Sendable.{is_addable, lines_len, parts_of}
use Rattle.mg_wire.specs.Status.{has_content}

-- the names and the values, in order
abbrev pub listed : Fields → List Header
listed fields = parts_of fields.list.items

-- when a response was made (RFC 9110, sections 5.6.7 and 6.6.1)
abbrev pub date_field : Date → Header
date_field d = (codes "date", date_text d)

-- it, if there is one
abbrev pub date_fields : Option Date → List Header
date_fields None = []
date_fields (Some d) = date_field d ∷ []

-- the names and the values of a response's fields: its date, and then those that were added
abbrev pub fields_of : Response → List Header
fields_of r = date_fields r.date ++ listed r.fields

-- the content of a response: its body, if its status has content
abbrev pub content_of : Response → List ℕ
content_of r = if has_content r.status then r.body.items else []

-- why the field is not added after these
abbrev pub IsReasonFor : List Header → Header → FieldError → Type 0
IsReasonFor hs h Invalid = is_addable h ≡ false
IsReasonFor hs h Full = (length hs ≡ MAX_RESPONSE_FIELDS) ⊎ (MAX_LINES_LEN < lines_len (hs ++ h ∷ []))
IsReasonFor hs h NoMemory = is_addable h ≡ true

-- a 200 with no date, no field and no body
pub record IsBlank (r : Response) : Type 0 where
  pub status : r.status ≡ Is.Ok
  pub date : r.date ≡ None
  pub fields : listed r.fields ≡ []
  pub body : r.body.items ≡ []
