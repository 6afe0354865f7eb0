-- A face may be sent to another thread if its store may.
use denote.Param.Send.{IsSend, sendable, view_send}
use denote.Param.SendFields.{as_row_send, declared_send}
use denote.RattleType.{RattleType}
use denote.Struct.Field.{row_field}
use Rattle.std.proofs.Crossing.{crosses}
use Rattle.std.specs.declared.sync.ledger.Ledger as ledger
use Rattle.mg_value.proofs.borrowed.ReadBuffer.TheSendSync as buffer
use Rattle.mg_live.specs.declared.database.Database as database
use Rattle.mg_face.specs.contracts.face.Face as Face
use Rattle.mg_face.specs.contracts.face.Face.TheInside as face

pub face_send : (D S : RattleType) (d : database.Ghosts D.Denot) (l : ledger.Ghosts D.Denot) → IsSend S → IsSend (Face.the_row D S d l)
face_send D S d l s = view_send _ _ _ _ _ (declared_send (face.the_type D S d l) (
  search (sendable, crosses) depth 20,
  (
    search (sendable, crosses) depth 20,
    (as_row_send (row_field S) s, (search (sendable, crosses) depth 20, (buffer.the_send, (search (sendable, crosses) depth 20, (search (sendable, crosses) depth 20, tt))))),
  ),
))
