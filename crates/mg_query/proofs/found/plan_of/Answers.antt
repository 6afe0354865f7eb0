use Rattle.mg_query.proofs.found.plan_of.Goals as goal

pub returns-clause-plan : goal.returns-clause-plan
returns-clause-plan c = record { normal = c.args.query.now.is_normal; range = c.in_ok-range.ensures.range; after = c.in_ok-after.ensures; decided = c.in_ok-range.ensures.decided }
