use denote.Param.{copied, param}
use denote.Exit.{no}
use denote.Param.Send.{arg_send, param_send}
use Rattle.mg_live.proofs.Crossing.{seat_send, waiting_send}
use Rattle.mg_live.specs.contracts.database.WaitForReaders as WaitForReaders
use Rattle.mg_live.specs.declared.database.Keeper as keeper
use Rattle.mg_tests.proofs.gate_tests.write_during_query.Goals as goal

-- what waits for readers keeps no commit
abbrev nowhere : {A : Type 0} → keeper.Ghosts A
nowhere = record { keeps = λ keeper writes. Unit {0} }

-- seats may be sent to other threads
pub map_vec-requires-send-J : goal.map_vec-requires-send-J
map_vec-requires-send-J g c κs within =
    let ends = waiting_send (copied 1 g.row.R) c.type_bounds.send-R in
    param_send 1 _ (arg_send _ no _ (seat_send (param 0 g.row.D) (WaitForReaders.the_row (copied 1 g.row.R)) g.D.Database g.D.Ledger nowhere ends))

pub map_vec-requires-send-X : goal.map_vec-requires-send-X
map_vec-requires-send-X g c κs within =
    let ends = waiting_send (copied 1 g.row.R) c.type_bounds.send-R in
    param_send 2 _ (arg_send _ no _ (seat_send (param 0 g.row.D) (WaitForReaders.the_row (copied 1 g.row.R)) g.D.Database g.D.Ledger nowhere ends))
