use Rattle.mg_engine.proofs.engine.Engine.new.Goals as goal

pub returns-clause-stands : goal.returns-clause-stands
returns-clause-stands g c = c.in_ok-state.ensures.stands (g.P.Placement.place c.in_ok-placement.placement.value)
