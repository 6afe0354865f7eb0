use Rattle.std.proofs.Common.{◌≡◌, ◌++◌, length, nat_lt, rules, ap, ◌∙◌}
use Rattle.mg_packed.specs.Tables.{all_bytes, word, head}
use Rattle.mg_packed.proofs.Opened.{here_is, open_text, open_tables}
use Rattle.mg_packed.proofs.pieces.Pieces.end.Goals as goal

pub returns : goal.returns
returns c = λ b t first ps h.
    let own = c.args.self in
    let count : c.len-count.result ≡ length own.marks.items = search rules in
    let text : c.len.result ≡ length c.args.text.now.items = search rules in
    let tables : c.len-2.result ≡ length c.args.tables.now.items = search rules in
    let last = c.here-last.ensures ∙ here_is b t first ps c.args.text.now.items c.args.tables.now.items own.text own.tables own.marks.items (nat_lt 0 c.len-count.result) c.len.result c.len-2.result h (ap (λ n. nat_lt 0 n) count) text tables in
    let n = c.len-count.result in
    let wide = c.is_wide-wide.result in
    let made =
    c.in_ok-push_word.ensures ∙ ap (λ x. c.push_marks.new.out.items ++ word x) c.in_ok-head.ensures
    ∙ ap (λ x. x ++ word (head n wide)) (c.in_ok-push_marks.ensures ∙ ap (λ x. c.args.tables.now.items ++ all_bytes wide x) c.deref.ensures.value) in (
      open_text b t first ps c.args.text.now.items c.args.tables.now.items own.text own.tables own.marks.items c.args.bracket c.push_byte.new.out.items h c.in_ok-push_byte.ensures,
      open_tables b t first ps c.args.text.now.items c.args.tables.now.items own.text own.tables own.marks.items c.here-last.result wide n c.push.new.self.items c.push_word.new.out.items h last c.is_wide-wide.ensures count c.in_ok-push.ensures.items made,
    )
