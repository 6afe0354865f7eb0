use denote.Exit.{no}
use denote.Param.{param}
use denote.Param.Send.{arg_send, param_send}
use Rattle.mango_server.proofs.Crossing.{stored_face_send}
use Rattle.mango_server.proofs.serving.listen.Goals as goal

-- services may be sent to other threads
pub serve_with-requires-send-S : goal.serve_with-requires-send-S
serve_with-requires-send-S g c κs within =
    param_send 1 _ (arg_send _ no _ (stored_face_send (param 0 g.row.D) (param 1 g.row.C) g.D.Database g.D.Ledger _ c.type_bounds.send-C))
