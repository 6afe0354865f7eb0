use Rattle.std.proofs.Common.{sym, ◌∙◌, arith}
use Rattle.std.proofs.lemmas.Grind.{common_steps}
use Rattle.mg_wire.proofs.BodyLemmas.{is_coded, states_too_much}
use Rattle.mg_wire.proofs.connection.Connection.objection.Goals as goal

pub returns-then-has_codings : goal.returns-then-has_codings
returns-then-has_codings c = λ fresh.
    is_coded c.args.self.now.bounds c.args.self.now.input.items c.args.begun.now fresh.begun fresh.coded (grind (arith, common_steps))

pub returns-in-Known : goal.returns-in-Known
returns-in-Known c = λ fresh.
    states_too_much c.args.self.now.bounds c.args.self.now.input.items c.args.begun.now fresh.begun c.in-Known.len c.args.self.now.bounds.max_body
    (sym c.unread_size.ensures ∙ c.in-Known.is) (grind (arith, common_steps))
