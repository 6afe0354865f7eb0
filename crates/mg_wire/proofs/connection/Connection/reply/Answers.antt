use Rattle.std.proofs.Common.{◌≡◌, ℕ, List, [], length, refl, sym, ap, ◌∙◌, arith, if◌then◌else◌, Bool, true, false}
use Rattle.std.proofs.lemmas.Grind.{common_steps}
use Rattle.http1.specs.Framing.{method_kind}
use Rattle.http1.specs.Server.{is_head, peer_method}
use Rattle.http1.specs.declared.framing.MethodKind.{MethodKind}
use Rattle.mg_wire.specs.declared.response.Response.{Response}
use Rattle.mg_wire.specs.Response.{content_of}
use Rattle.mg_wire.specs.Status.{has_content}
use Rattle.mg_wire.proofs.TurnLemmas.{reply_ok, settles}
use Rattle.mg_wire.proofs.connection.Connection.reply.Goals as goal

len_of : (h b : Bool) (xs : List ℕ) → length (if h then [] else (if b then xs else [])) ≡ (if h then 0 else (if b then length xs else 0))
len_of true b xs = refl
len_of false true xs = refl
len_of false false xs = refl

content_is : (r : Response) → length (content_of r) ≡ (if has_content r.status then length r.body.items else 0)
content_is r = len_of false (has_content r.status) r.body.items

pub returns-clause-holds : goal.returns-clause-holds
returns-clause-holds c = λ due.
    let kind : c.of-method.result ≡ method_kind c.args.begun.request.method = c.of-method.ensures ∙ ap method_kind c.as_slice.ensures in
    let full : c.len.result ≡ length c.args.response.body.items = grind (arith, common_steps) in
    let bears = has_content c.args.response.status in
    reply_ok c.args.self.now c.attach.new.self c.settle.new.self c.args.begun c.args.response due c.attach.ensures.only c.write_reply.new.server
    (settles c.attach.new.self c.settle.new.self c.write_reply.new.server c.is_closed.result c.is_closed.ensures c.settle.ensures)
    c.write_reply.new.output.items c.sent_len-sent.result c.sent_body-body.result.items c.write_reply.ensures
    (c.sent_body-body.ensures ∙ ap (λ (k : MethodKind). if is_head k then [] else content_of c.args.response) kind)
    (ap length c.sent_body-body.ensures ∙ len_of (is_head c.of-method.result) bears c.args.response.body.items
    ∙ sym (c.sent_len-sent.ensures ∙ ap (λ (n : ℕ). if is_head c.of-method.result then 0 else n) (c.content_len-len.ensures ∙ ap (λ (n : ℕ). if bears then n else 0) full))) c.attach.ensures.pending

pub write_reply-requires-clause-sent : goal.write_reply-requires-clause-sent
write_reply-requires-clause-sent c =
    let kind : c.of-method.result ≡ method_kind c.args.begun.request.method = c.of-method.ensures ∙ ap method_kind c.as_slice.ensures in
    let same : is_head c.of-method.result ≡ is_head (peer_method c.args.begun.server) = ap is_head kind ∙ sym c.args.begun.same_method in
    let full : c.len.result ≡ length c.args.response.body.items = grind (arith, common_steps) in
    let content : c.content_len-len.result ≡ length (content_of c.args.response) =
    c.content_len-len.ensures ∙ ap (λ (n : ℕ). if has_content c.args.response.status then n else 0) full ∙ sym (content_is c.args.response) in
    c.sent_len-sent.ensures ∙ (λ i. if same i then 0 else content i)
