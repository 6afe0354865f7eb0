-- Fields that can be sent, one after another.
use Rattle.std.specs.Prelude.{codes}
use Rattle.std.proofs.Common.{◌≡◌, ℕ, ◌+◌, Bool, true, false, not, List, [], ◌∷◌, ◌++◌, length, length-append, refl, ap, ◌∙◌, arith}
use Rattle.std.specs.List.{list_all}
use Rattle.std.proofs.lemmas.Bool.{and_parts, and_from}
use Rattle.std.proofs.lemmas.Grind.{flat_map-append}
use Rattle.std.proofs.lemmas.List.{map-append}
use Rattle.http1.specs.Fields.{Header, is_framing_field, is_named}
use Rattle.http1.specs.Head.{is_header, are_headers, print_header}
use Rattle.http1.proofs.TextLemmas.{list_all-append}
use Rattle.mg_wire.specs.declared.request.Field.{Field}
use Rattle.mg_wire.specs.Request.{field_parts}
use Rattle.mg_wire.specs.Sendable.{is_sendable, is_addable, are_sendable, are_addable, parts_of, lines_len}

pub parts_push : (fields : List Field) (f : Field) → parts_of (fields ++ f ∷ []) ≡ parts_of fields ++ field_parts f ∷ []
parts_push fields f = map-append field_parts fields (f ∷ [])

pub addable_push : (hs : List Header) (h : Header) → are_addable hs ≡ true → is_addable h ≡ true → are_addable (hs ++ h ∷ []) ≡ true
addable_push hs h all this = list_all-append is_addable hs (h ∷ []) ∙ and_from _ _ all (and_from _ _ this refl)

-- what a service may add can be sent
pub sendable_of : (hs : List Header) → are_addable hs ≡ true → are_sendable hs ≡ true
sendable_of [] all = refl
sendable_of (h ∷ hs) all =
    let parts = and_parts (is_addable h) (list_all is_addable hs) all in
    and_from _ _ (and_parts (is_sendable h) (not (is_named (codes "date") h)) parts.0).0 (sendable_of hs parts.1)

pub lines_push : (hs : List Header) (h : Header) → lines_len (hs ++ h ∷ []) ≡ lines_len hs + (length h.0 + length h.1 + 4)
lines_push hs h = omega (arith, length-append {A = ℕ}, ap length (flat_map-append print_header hs (h ∷ [])))

pub not_true : (b : Bool) → not b ≡ true → b ≡ false
not_true true e = cc
not_true false e = refl

pub unframing : (h : Header) → is_sendable h ≡ true → is_framing_field h ≡ false
unframing h is = not_true (is_framing_field h) (and_parts (is_header h) (not (is_framing_field h)) is).1

-- they are headers that `http1` takes
pub headers_of : (hs : List Header) → are_sendable hs ≡ true → are_headers hs ≡ true
unfolding are_headers
headers_of [] all = refl
headers_of (h ∷ hs) all =
    let parts = and_parts (is_sendable h) (list_all is_sendable hs) all in
    and_from _ _ (and_parts (is_header h) (not (is_framing_field h)) parts.0).0 (headers_of hs parts.1)
