use Rattle.std.proofs.Common.{◌≡◌, ◌++◌, ◌∷◌, ◌+◌, List, drop, ap, sym, ◌∙◌}
use Rattle.std.proofs.Math.ListN.{drop_of_length-le}
use Rattle.mg_value.specs.Held.{items_tokens_of}
use Rattle.mg_engine.specs.Outcomes.{entries_view}
use Rattle.mg_engine.specs.declared.bulk.apply.EditOutcome.{EditOutcome}
use Rattle.mg_engine.proofs.Executions.{drop_item}
use Rattle.mg_engine.proofs.bulk.reply.write_entries.Goals as goal

pub loop-outcome-preserved : goal.loop-outcome-preserved
loop-outcome-preserved c =
    let l = c.loop-outcome in
    let b = c.args.new_edits in
    let o : EditOutcome = c.outcome-item.result in
    let rest : List EditOutcome = drop (l.outcome-index + 1) c.args.outcomes.now in
    let step : drop l.outcome-index c.args.outcomes.now ≡ o ∷ rest = drop_item c.args.outcomes.now l.outcome-index o c.loop-outcome-test.true c.outcome-item.is in
    record {
      before = c.in_ok-write_entry.ensures.before ∙ l.invariant.before;
      tokens = l.invariant.tokens ∙ ap (λ (os : List EditOutcome). l.out.tokens ++ items_tokens_of (entries_view b os)) step ∙ sym (c.in_ok-write_entry.ensures.tokens (entries_view b rest));
    }

pub returns-clause-tokens : goal.returns-clause-tokens
returns-clause-tokens c =
    let l = c.loop-outcome in
    let none = drop_of_length-le c.args.outcomes.now c.loop-outcome-test.false in
    c.in_ok-end_array.ensures.ok ∙ sym (l.invariant.tokens ∙ ap (λ (os : List EditOutcome). l.out.tokens ++ items_tokens_of (entries_view c.args.new_edits os)) none)
