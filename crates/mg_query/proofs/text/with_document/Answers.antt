use Rattle.std.proofs.Common.{◌≡◌, ◌++◌, ℕ, List, Option, IfSome, ap, option_map, subst, sym, ◌∙◌}
use Rattle.mg_value.specs.Text.{compact}
use Rattle.mg_index.specs.Definition.{Steps}
use Rattle.mg_scan.specs.Hit.{hit_text}
use Rattle.mg_query.specs.Page.{Candidate, shown_of}
use Rattle.mg_query.specs.Lent.{Lends}
use Rattle.mg_query.specs.View.{query_view}
use Rattle.mg_query.proofs.Showing.{ok_weaker, shown_whole}
use Rattle.mg_query.proofs.text.with_document.Goals as goal

pub returns-then-is_shown_whole : goal.returns-then-is_shown_whole
returns-then-is_shown_whole c =
    let q = query_view c.args.query.now in
    ok_weaker c.with_kept.result
    (λ b. IfSome (hit_text c.args.hit.now) (λ t. b.items ≡ c.args.out.items ++ t))
    (λ b. (columns : List Steps) (x : Candidate) → Lends columns c.args.hit.now x → b.items ≡ c.args.out.items ++ compact (shown_of q x))
    (λ b e columns x l. subst (λ (o : Option (List ℕ)). IfSome o (λ t. b.items ≡ c.args.out.items ++ t)) (ap (option_map compact) l.form) e ∙ ap (λ t. c.args.out.items ++ t) (ap compact (sym (shown_whole q x (sym c.is_shown_whole.ensures ∙ c.if-is_shown_whole.true)))))
    c.with_kept.ensures
