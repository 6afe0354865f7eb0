-- The service of a seat whose commits are kept may be sent to another thread, and so may a face before it.
use denote.Param.Send.{IsSend, sendable}
use denote.Param.SendFields.{declared_send}
use denote.RattleType.{RattleType}
use Rattle.std.proofs.Crossing.{crosses}
use Rattle.std.proofs.option.Option.TheSendSync as option
use Rattle.std.specs.declared.sync.ledger.Ledger as ledger
use Rattle.sqlite_disk.proofs.modelled.Modelled.TheSendSync as modelled
use Rattle.std.proofs.fs.File.TheSendSync as file
use Rattle.sqlite_disk.specs.contracts.start.Unknown as Unknown
use Rattle.sqlite_std_file.specs.contracts.host.Host as Host
use Rattle.sqlite_store.proofs.store.FileStore.TheSendSync as file_store
use Rattle.mg_face.proofs.Crossing.{face_send}
use Rattle.mg_face.specs.contracts.face.Face as Face
use Rattle.mg_http.proofs.Crossing.{service_send}
use Rattle.mg_live.proofs.Crossing.{waiting_send}
use Rattle.mg_live.specs.declared.database.Database as database
use Rattle.mg_live.specs.declared.database.Keeper as keeper
use Rattle.mg_log.proofs.log.Log.TheSendSync as log
use Rattle.mango_server.specs.contracts.keeper.FileKeeper as FileKeeper
use Rattle.mango_server.specs.contracts.service.StoredService as StoredService

host_send : IsSend Host.the_row
host_send = declared_send Host.the_type (search (sendable, crosses, file.the_send) depth 20, (search (sendable, crosses) depth 20, tt))

pub keeper_send : (H : RattleType) → IsSend H → IsSend (FileKeeper.the_row H)
keeper_send H s = declared_send (FileKeeper.the_type H) (
  option.the_send _ (log.the_send _ _ (file_store.the_send _ _ (modelled.the_send Host.the_row Unknown.the_row _ _ host_send))),
  (search sendable depth 10, (search (sendable, crosses) depth 10, (waiting_send H s, tt))),
)

module _ (D C : RattleType) (d : database.Ghosts D.Denot) (l : ledger.Ghosts D.Denot) (k : keeper.Ghosts C.Denot) where
  pub stored_send : IsSend C → IsSend (StoredService.the_row D C k d l)
  stored_send c = declared_send (StoredService.the_type D C k d l) (service_send D C d l k c, (search (sendable, crosses) depth 10, tt))

  -- the services of the program
  pub stored_face_send : IsSend C → IsSend (Face.the_row D (StoredService.the_row D C k d l) d l)
  stored_face_send c = face_send D _ d l (stored_send c)
