use Rattle.std.proofs.Common.{List, ℕ, ◌++◌, ◌∷◌, [], ap, ap₂, ◌∙◌}
use Rattle.mg_engine.proofs.RowTexts.{before_key, before_rev, row_parts}
use Rattle.mg_engine.proofs.rows.with_row.Goals as goal

pub returns : goal.returns
returns c =
    let join = λ (t u : List ℕ). t ++ u in
    let front = c.in_ok-extend_from_slice.ensures.items ∙ ap₂ join c.in_ok-out.ensures c.member_text-id.ensures in
    let key = c.in_ok-extend_from_slice-3.ensures.items ∙ ap₂ join (c.in_ok-extend_from_slice-2.ensures.items ∙ ap (λ t. t ++ before_key) front) c.member_text-id.ensures in
    let rev = c.in_ok-extend_from_slice-5.ensures.items ∙ ap₂ join (c.in_ok-extend_from_slice-4.ensures.items ∙ ap (λ t. t ++ before_rev) key) c.member_text.ensures in
    c.in_ok-extend_from_slice-6.ensures.items ∙ ap (λ t. t ++ 125 ∷ 125 ∷ []) rev ∙ row_parts c.args.documents c.args.document.now c.args.out.items
