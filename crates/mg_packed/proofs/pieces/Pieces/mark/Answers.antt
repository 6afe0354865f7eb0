use Rattle.std.proofs.Common.{◌≡◌, ◌++◌, ◌∷◌, [], length, nat_lt, rules, sym, ap, ◌∙◌}
use Rattle.mg_packed.specs.Tables.{lead}
use Rattle.mg_packed.proofs.Opened.{open_next}
use Rattle.mg_packed.proofs.pieces.Pieces.mark.Goals as goal

pub returns-clause-added : goal.returns-clause-added
returns-clause-added c = λ b t bracket ps p e h.
    let own = c.args.self.now in
    let later = nat_lt 0 c.len-later.result in
    let count : c.len-later.result ≡ length own.marks.items = search rules in
    let text : c.len.result ≡ length c.args.text.now.items = search rules in
    let tables : c.len-2.result ≡ length c.args.tables.now.items = search rules in
    open_next b t bracket ps c.args.text.now.items c.args.tables.now.items own.text own.tables own.marks.items later c.len.result c.len-2.result c.push_lead.new.out.items c.push.new.self.items p h (ap (λ n. nat_lt 0 n) count) text tables
    (c.in_ok-push_lead.ensures ∙ ap (λ x. c.args.text.now.items ++ lead later x) (sym e)) (c.in_ok-push.ensures.items ∙ ap (λ x. own.marks.items ++ x ∷ []) c.here-next.ensures)
