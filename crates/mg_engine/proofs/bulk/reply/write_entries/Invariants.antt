use Rattle.std.proofs.Common.{◌≡◌, ◌++◌, drop}
use Rattle.mg_value.specs.Held.{items_tokens_of}
use Rattle.mg_engine.specs.Outcomes.{entries_view}
use Rattle.mg_engine.proofs.bulk.reply.write_entries.Given as goal

-- the tokens so far, followed by those of the rest, are the tokens of all entries
abbrev pub invariant-loop-outcome : goal.invariant-loop-outcome
invariant-loop-outcome l = record {
  before : l.out.before ≡ l.fn.out.before;
  tokens : l.fn.out.tokens ++ items_tokens_of (entries_view l.new_edits l.outcomes) ≡ l.out.tokens ++ items_tokens_of (entries_view l.new_edits (drop l.outcome-index l.outcomes));
}
