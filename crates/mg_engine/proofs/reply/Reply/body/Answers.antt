use Rattle.std.proofs.Common.{ap, sym, ◌∙◌}
use Rattle.json.specs.Print.{escape_byte}
use Rattle.mg_engine.specs.View.{answer_in}
use Rattle.mg_engine.specs.declared.reply.Reply.{Reply}
use Rattle.mg_engine.proofs.reply.Reply.body.Goals as goal

pub returns-in-NoMemory : goal.returns-in-NoMemory
unfolding escape_byte
returns-in-NoMemory c = c.as_bytes.ensures.value ∙ sym (ap (λ (r : Reply). (answer_in r).body) c.in-NoMemory.is)
