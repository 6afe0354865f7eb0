-- A connection may be sent to another thread, and so may the service of a seat.
use denote.Param.Send.{IsSend, sendable}
use denote.Param.SendFields.{declared_send}
use denote.RattleType.{RattleType}
use denote.Ref.{NamedLft}
use Rattle.std.proofs.Crossing.{crosses}
use Rattle.std.specs.declared.sync.ledger.Ledger as ledger
use Rattle.bytes.proofs.unique.BytesMut.TheSendSync as bytes_mut
use Rattle.mg_http.specs.contracts.request.head.Framed as Framed
use Rattle.mg_http.specs.contracts.request.target.BodilessCommand as BodilessCommand
use Rattle.mg_http.specs.contracts.request.target.ParsedRequest as ParsedRequest
use Rattle.mg_http.specs.contracts.sessions.connection.Connection as Connection
use Rattle.mg_http.specs.contracts.sessions.input.Input as Input
use Rattle.mg_http.specs.contracts.sessions.service.SeatService as SeatService
use Rattle.mg_live.specs.contracts.publication.SnapshotAbsorbUnit.TheImpl as absorb_of
use Rattle.mg_live.specs.declared.database.Database as database
use Rattle.mg_live.specs.declared.database.Keeper as keeper
use Rattle.mg_live.proofs.Crossing.{seat_send}
use Rattle.mg_shard.specs.contracts.placement.Md5Placement as Md5Placement
use Rattle.mg_shard.specs.contracts.placement.Md5PlacementPlacement.TheImpl as md5
use Rattle.http_server.proofs.log.Log.TheSendSync as log
use Rattle.mg_http.proofs.request.routes.Endpoint.TheSendSync as endpoint
use Rattle.mg_http.proofs.sessions.connection.Ending.TheSendSync as ending
use Rattle.mg_http.proofs.sessions.output.Output.TheSendSync as output

command_send : IsSend BodilessCommand.the_row
command_send = search (sendable, crosses) depth 40

request_send : IsSend ParsedRequest.the_row
request_send = search (sendable, crosses, command_send, endpoint.the_send) depth 40 fits 10000

framed_send : IsSend Framed.the_row
framed_send = search (sendable, crosses, request_send) depth 40 fits 10000

input_send : IsSend Input.the_row
input_send = search (sendable, crosses, bytes_mut.the_send) depth 40

pub connection_send : (a : NamedLft) → IsSend (Connection.the_row a)
connection_send a = declared_send (Connection.the_type a) (
  search (sendable, crosses) depth 10,
  (
    search (sendable, crosses) depth 10,
    (
      input_send,
      (
        search (sendable, crosses, framed_send) depth 10,
        (
          output.the_send,
          (
            search sendable depth 10,
            (
              search (sendable, ending.the_send) depth 10,
              (
                search sendable depth 10,
                (
                  search (sendable, log.the_send, bytes_mut.the_send) depth 10,
                  (search (sendable, log.the_send, output.the_send) depth 10, tt),
                ),
              ),
            ),
          ),
        ),
      ),
    ),
  ),
)

-- the service of a seat is `Send` if what keeps its commits is
module _ (D C : RattleType) (d : database.Ghosts D.Denot) (l : ledger.Ghosts D.Denot) (k : keeper.Ghosts C.Denot) where
  pub service_send : IsSend C → IsSend (SeatService.the_row D C Md5Placement.the_row k (absorb_of.ghosts Md5Placement.the_row) d l md5.ghosts)
  service_send c = declared_send (SeatService.the_type D C Md5Placement.the_row k (absorb_of.ghosts Md5Placement.the_row) d l md5.ghosts) (seat_send D C d l k c, (search sendable depth 10, tt))
