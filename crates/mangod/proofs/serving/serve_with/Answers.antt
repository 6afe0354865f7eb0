use denote.Exit.{no}
use denote.Param.{copied, param}
use denote.Param.Send.{arg_send, param_send}
use Rattle.mg_http.proofs.Crossing.{connection_send, service_send}
use Rattle.mg_live.proofs.Crossing.{waiting_send}
use Rattle.mg_live.specs.contracts.database.WaitForReaders as WaitForReaders
use Rattle.mangod.proofs.serving.serve_with.Goals as goal

-- services and connections may be sent to other threads
pub serve_in_turn-served-requires-send-S : goal.serve_in_turn-served-requires-send-S
serve_in_turn-served-requires-send-S g c κs within =
    let ends = waiting_send (copied 1 g.row.H) c.type_bounds.send-H in
    param_send 1 _ (arg_send _ no _ (service_send (param 0 g.row.D) (WaitForReaders.the_row (copied 1 g.row.H)) g.D.Database g.D.Ledger _ ends))

pub serve_in_turn-served-requires-send-C : goal.serve_in_turn-served-requires-send-C
serve_in_turn-served-requires-send-C g c κs within = param_send 2 _ (arg_send _ no _ (connection_send _))
