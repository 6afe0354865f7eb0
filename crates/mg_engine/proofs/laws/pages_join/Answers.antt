use Rattle.mg_engine.specs.Commands.{world_after}
use Rattle.mg_engine.specs.World.{empty_world}
use Rattle.mg_engine.proofs.Spelling.{places_carried}
use Rattle.mg_engine.proofs.laws.pages_join.Goals as goal

pub returns : goal.returns
returns c = λ name cs carried s q served skipped limit.
    let w = world_after (empty_world name) cs in
    c.pages_join.ensures w.indexes s q w.docs served skipped limit (places_carried name cs s q carried served)
