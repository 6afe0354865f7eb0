use Rattle.mg_packed.proofs.reader.read_with.Goals as goal

pub returns-in-Ok : goal.returns-in-Ok
returns-in-Ok c = c.in_ok-tree.ensures c.in-Ok.packed c.in-Ok.ensures
