use Rattle.mg_shard.proofs.Owned.{own_of_leaf}
use Rattle.mg_shard.proofs.document.served_in.Goals as goal

pub returns-in-Some-clause-own : goal.returns-in-Some-clause-own
returns-in-Some-clause-own c =
    c.of.ensures.own c.args.id.now (own_of_leaf c.args.id.now c.in_ok-form.field-0 c.in-Some.form c.in_ok-form.ensures.form c.in-Some.is)
