use Rattle.std.proofs.Common.{◌∙◌, inl, drop, sym}
use Rattle.mg_http.proofs.HeadLemmas.{head_asks, head_omits, head_closes, head_refused}
use Rattle.mg_http.proofs.request.head.read_whole.Goals as goal

pub returns-in-Err : goal.returns-in-Err
returns-in-Err c = λ h at.
    let framing = rw (c.of-method.ensures, c.of.ensures, c.front_of-fields.ensures) at c.in-Err.ensures in
    let omits_body = rw c.of-method.ensures at c.is_head_method-omits_body.ensures in
    inl (h, drop c.args.head.len c.args.bytes.now, at.reads, head_refused c.args.bytes.now c.args.spans.now c.args.head h at c.args.db.now _ framing, omits_body ∙ head_omits c.args.bytes.now c.args.spans.now c.args.head h at)

pub returns-in-Ok : goal.returns-in-Ok
returns-in-Ok c = λ h at.
    let framing = rw (c.of-method.ensures, c.of.ensures, c.front_of-fields.ensures) at c.in-Ok.ensures in
    let omits_body = rw c.of-method.ensures at c.is_head_method-omits_body.ensures in
    let closes = rw c.front_of-fields.ensures at c.closes_after.ensures in (
      c.requires.section.len_fits,
      framing.1,
      h,
      at.reads,
      record {
        framing = sym (head_asks c.args.bytes.now c.args.spans.now c.args.head h at c.args.db.now) ∙ framing.0;
        omits_body = omits_body ∙ head_omits c.args.bytes.now c.args.spans.now c.args.head h at;
        closes = closes ∙ head_closes c.args.bytes.now c.args.spans.now c.args.head h at;
      },
    )
