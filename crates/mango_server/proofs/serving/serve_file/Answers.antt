use denote.Exit.{no}
use denote.Param.{copied}
use denote.Param.Send.{arg_send, param_send}
use Rattle.mango_server.proofs.Crossing.{keeper_send}
use Rattle.mango_server.proofs.serving.serve_file.Goals as goal

-- the keeper of a file may be sent to other threads
pub listen-requires-send-C : goal.listen-requires-send-C
listen-requires-send-C g c κs within = param_send 1 _ (arg_send _ no _ (keeper_send (copied 1 g.row.H) c.type_bounds.send-H))
