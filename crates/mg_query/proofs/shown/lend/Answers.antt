use Rattle.std.proofs.Common.{sym, ◌∙◌}
use Rattle.mg_query.specs.View.{query_view}
use Rattle.mg_query.proofs.Showing.{same_form, shown_whole}
use Rattle.mg_query.proofs.shown.lend.Goals as goal

pub returns-then-is_shown_whole : goal.returns-then-is_shown_whole
returns-then-is_shown_whole c = λ columns x l.
    same_form c.form.result x.form (c.form.ensures ∙ l.form) ∙ sym (shown_whole (query_view c.args.query.now) x (sym c.is_shown_whole.ensures ∙ c.if-is_shown_whole.true))
