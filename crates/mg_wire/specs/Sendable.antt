-- The fields that a service may send (RFC 9110, section 5; RFC 9112, sections 5 and 6).
use Rattle.std.specs.Prelude.{ℕ, Bool, not, ◌&&◌, ◌||◌, List, map, length, codes}
use Rattle.std.specs.List.{list_all}
use Rattle.http1.specs.Fields.{Header, is_framing_field, is_named}
use Rattle.http1.specs.Head.{is_header, print_headers}
use Rattle.mg_wire.specs.declared.request.Field.{Field}
use Rattle.mg_wire.specs.Request.{field_parts}

-- The name is a token, and the value has no control byte and no blank at an end. The field does not state the length of the body: the
-- connection does.
abbrev pub is_sendable : Header → Bool
is_sendable h = is_header h && not (is_framing_field h)

-- A service may add the field to those of a response, whose date it gives apart.
abbrev pub is_addable : Header → Bool
is_addable h = is_sendable h && not (is_named (codes "date") h)

-- each of them may be sent
abbrev pub are_sendable : List Header → Bool
are_sendable hs = list_all is_sendable hs

-- a service may add each of them
abbrev pub are_addable : List Header → Bool
are_addable hs = list_all is_addable hs

-- The connection adds the field to those of a response: it says how long the body is, or whether the connection stays open.
abbrev pub is_own : Header → Bool
is_own h = is_named (codes "content-length") h || is_named (codes "connection") h

-- the names and the values
abbrev pub parts_of : List Field → List Header
parts_of fields = map field_parts fields

-- how many bytes their lines take
abbrev pub lines_len : List Header → ℕ
lines_len hs = length (print_headers hs)
