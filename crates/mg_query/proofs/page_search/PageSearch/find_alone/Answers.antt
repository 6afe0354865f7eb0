use Rattle.std.proofs.Common.{◌≡◌, ℕ, Bool, true, false, List, drop, length, subst, sym}
use Rattle.std.specs.Prelude.{IfOk}
use Rattle.mg_query.specs.Read.{IsReadFor}
use Rattle.mg_query.proofs.page_search.PageSearch.find_alone.Goals as goal

pub returns-then-self-clause-read : goal.returns-then-self-clause-read
returns-then-self-clause-read c =
    let decided : c.args.self.now.plan.now.is_decided ≡ true = cc in
    subst (λ (b : Bool). IfOk c.pull_page.result (λ made. (handed : List ℕ) → IsReadFor b (length (drop made.skip made.hits.items)) handed made.reads)) (sym decided) c.pull_page.ensures.read

pub returns-else-self-clause-read : goal.returns-else-self-clause-read
returns-else-self-clause-read c =
    let decided : c.args.self.now.plan.now.is_decided ≡ false = cc in
    subst (λ (b : Bool). IfOk c.pull_hits.result (λ made. (handed : List ℕ) → IsReadFor b (length (drop made.skip made.hits.items)) handed made.reads)) (sym decided) c.pull_hits.ensures.read
