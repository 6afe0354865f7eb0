use Rattle.std.proofs.Common.{◌≡◌, ℕ, List, ap, sym, ◌∙◌}
use Rattle.mg_value.specs.View.{view}
use Rattle.mg_index.specs.Definition.{Steps}
use Rattle.mg_revtree.specs.History.{Paths}
use Rattle.mg_revtree.specs.Tree.{StandsFor}
use Rattle.mg_shard.specs.Documents.{kept_of}
use Rattle.mg_query.specs.Page.{Candidate, projected, shown_of}
use Rattle.mg_query.specs.Lent.{Lends}
use Rattle.mg_query.specs.View.{query_view}
use Rattle.mg_query.proofs.Showing.{ok_weaker, same_form, shown_hit, shown_plain}
use Rattle.mg_query.proofs.shown.show.Goals as goal

pub returns-then-query : goal.returns-then-query
returns-then-query c =
    let q = query_view c.args.query.now in
    let form = c.form.result in
    let tree = c.tree.result.now in
    ok_weaker c.show_with_conflicts.result
    (λ v. (id : List ℕ) (h : Paths) → StandsFor tree h → view v ≡ shown_of q (record { id = id; form = form; history = h }))
    (λ v. (columns : List Steps) (x : Candidate) → Lends columns c.args.hit.now x → view v ≡ shown_of q x)
    (λ v shown columns x l. shown_hit q columns c.args.hit.now x form (kept_of c.document.result.now) tree (view v) shown c.form.ensures c.document.ensures c.tree.ensures l)
    c.show_with_conflicts.ensures

pub returns-else-query : goal.returns-else-query
returns-else-query c =
    let q = query_view c.args.query.now in
    let form = c.form-else-query.result in
    ok_weaker c.project_lent.result
    (λ v. view v ≡ projected c.deref.result.now form)
    (λ v. (columns : List Steps) (x : Candidate) → Lends columns c.args.hit.now x → view v ≡ shown_of q x)
    (λ v e columns x l. e ∙ ap (λ fields. projected fields form) c.deref.ensures.value ∙ ap (projected q.fields) (same_form form x.form (c.form-else-query.ensures ∙ l.form)) ∙ sym (shown_plain q x cc))
    c.project_lent.ensures
