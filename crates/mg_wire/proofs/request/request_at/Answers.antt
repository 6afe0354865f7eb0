use Rattle.std.proofs.Common.{◌∙◌, sym, refl}
use Rattle.mg_wire.proofs.RequestLemmas.{span_in_head, headers_in_head}
use Rattle.mg_wire.proofs.request.request_at.Goals as goal

pub returns : goal.returns
returns c =
    let input = c.args.input.now in
    let len = c.args.head.now.len in
    let is = sym c.in_ok-text.ensures in
    record {
      method = c.in_ok-part_of.ensures ∙ span_in_head input c.in_ok-text.text len c.args.head.now.method is c.requires.method;
      target = c.in_ok-part_of-2.ensures ∙ span_in_head input c.in_ok-text.text len c.args.head.now.path is c.requires.path;
      minor = refl;
      fields = c.in_ok-fields_at.ensures ∙ headers_in_head input c.in_ok-text.text len _ is c.requires.section.headers_fit;
      body = c.new.ensures.items;
    }
