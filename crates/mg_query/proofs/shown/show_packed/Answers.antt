use Rattle.std.proofs.Common.{◌≡◌, List, ◌∙◌}
use Rattle.mg_value.specs.View.{view}
use Rattle.mg_index.specs.Definition.{Steps}
use Rattle.mg_query.specs.Page.{Candidate, shown_of}
use Rattle.mg_query.specs.Lent.{Lends}
use Rattle.mg_query.specs.View.{query_view}
use Rattle.mg_query.proofs.Showing.{ok_weaker}
use Rattle.mg_query.proofs.shown.show_packed.Goals as goal

pub returns : goal.returns
returns c =
    ok_weaker c.of.result
    (λ b. b ≡ view c.in_ok-doc.doc)
    (λ b. (columns : List Steps) (x : Candidate) → Lends columns c.args.hit.now x → b ≡ shown_of (query_view c.args.query.now) x)
    (λ b e columns x l. e ∙ c.in_ok-doc.ensures columns x l)
    c.of.ensures
