use Rattle.std.proofs.Common.{◌≡◌, ◌≤◌, ◌-◌, ℕ, Bool, true, false, if◌then◌else◌, List, [], ◌∷◌, ◌++◌, length, take, drop, MatchOption, refl, sym, ap, subst, subst₂, ◌∙◌, arith}
use Rattle.std.specs.Prelude.{codes}
use Rattle.std.proofs.lemmas.Grind.{common_steps}
use Rattle.std.proofs.lemmas.List.{take_all, length-drop, drop-map}
use Rattle.http1.specs.declared.head.Header as Sent
use Rattle.http1.specs.Fields.{Header}
use Rattle.http1.specs.Head.{pairs, header_parts}
use Rattle.httpdate.specs.Date.{date_text}
use Rattle.mg_wire.specs.declared.request.Field.{Field}
use Rattle.mg_wire.specs.declared.response.Response.{Response}
use Rattle.mg_wire.specs.Reply.{first_of, Heads}
use Rattle.mg_wire.specs.Response.{content_of, date_fields, fields_of, listed}
use Rattle.mg_wire.specs.Sendable.{are_sendable, lines_len, parts_of}
use Rattle.mg_wire.specs.Status.{code_of, has_content}
use Rattle.mg_wire.proofs.DateLemmas.{dated, dated_sendable, dated_short}
use Rattle.mg_wire.proofs.SendableLemmas.{sendable_of}
use Rattle.mg_wire.proofs.reply.write_reply.Goals as goal

-- what is sent of the room is the fields of the response
sent_fields : (r : Response) (text : List ℕ) (first : ℕ) (room : List Sent.Header) (fields : List Field) → first ≡ first_of r.date
    → MatchOption r.date (Unit {0}) (λ d. text ≡ date_text d) → pairs room ≡ (codes "date", text) ∷ parts_of fields → fields ≡ r.fields.list.items
    → pairs (take (length room - first) (drop first room)) ≡ fields_of r
sent_fields r text first room fields at is same given =
    ap pairs (take_all (length room - first) (drop first room) (omega (arith, length-drop first room)))
    ∙ sym (drop-map header_parts first room)
    ∙ (λ i. drop (at i) (same i))
    ∙ dated r.date text (parts_of fields) is
    ∙ ap (λ (fs : List Field). date_fields r.date ++ parts_of fs) given

sendable : (r : Response) → are_sendable (fields_of r) ≡ true
sendable r = dated_sendable r.date (listed r.fields) (sendable_of (listed r.fields) r.fields.addable)

short : (r : Response) → lines_len (fields_of r) ≤ 7717
short r = dated_short r.date (listed r.fields) (omega (arith, r.fields.counted, r.fields.short))

content_is : (r : Response) → length (content_of r) ≡ (if has_content r.status then length r.body.items else 0)
content_is r = by_test (has_content r.status)
  where
    by_test : (b : Bool) → length (if b then r.body.items else []) ≡ (if b then length r.body.items else 0)
    by_test true = refl
    by_test false = refl

pub write_head-requires-clause-content : goal.write_head-requires-clause-content
write_head-requires-clause-content c = λ none. c.content_len-len.ensures ∙ (λ i. if none i then c.len.result else 0)

pub write_head-requires-clause-sendable : goal.write_head-requires-clause-sendable
write_head-requires-clause-sendable c =
    let same = sent_fields c.args.response.now c.date_bytes-date.result c.first_of-first.result (take c.headers_of-count.result.1 c.headers_of-count.result.0) c.as_slice.result.now
    c.first_of-first.ensures.first c.date_bytes-date.ensures c.headers_of-count.ensures.same c.as_slice.ensures.value in
    subst (λ (hs : List Header). are_sendable hs ≡ true) (sym same) (sendable c.args.response.now)

pub write_head-requires-clause-short : goal.write_head-requires-clause-short
write_head-requires-clause-short c =
    let same = sent_fields c.args.response.now c.date_bytes-date.result c.first_of-first.result (take c.headers_of-count.result.1 c.headers_of-count.result.0) c.as_slice.result.now
    c.first_of-first.ensures.first c.date_bytes-date.ensures c.headers_of-count.ensures.same c.as_slice.ensures.value in
    subst (λ (hs : List Header). lines_len hs ≤ 7717) (sym same) (short c.args.response.now)

pub returns : goal.returns
returns c =
    let same = sent_fields c.args.response.now c.date_bytes-date.result c.first_of-first.result (take c.headers_of-count.result.1 c.headers_of-count.result.0) c.as_slice.result.now
    c.first_of-first.ensures.first c.date_bytes-date.ensures c.headers_of-count.ensures.same c.as_slice.ensures.value in
    let full : c.len.result ≡ length c.args.response.now.body.items = grind (arith, common_steps) in
    let content : c.content_len-len.result ≡ length (content_of c.args.response.now) =
    c.content_len-len.ensures ∙ ap (λ (n : ℕ). if has_content c.args.response.now.status then n else 0) full ∙ sym (content_is c.args.response.now) in
    subst₂ (λ (hs : List Header) (n : ℕ). Heads c.args.server.now (code_of c.args.response.now.status) hs n c.args.sent c.args.output.now.items c.write_head.new.output.items c.write_head.new.server)
    same content c.write_head.ensures
