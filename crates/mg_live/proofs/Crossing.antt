-- Snapshots are `Send` and `Sync`, and seats are `Send`, if the placement of documents is `Send` and `Sync`.
use denote.Builtin.{unit}
use denote.Param.Send.{IsSend, IsSync, sendable, view_send, view_sync}
use denote.Param.SendFields.{as_row_send, declared_send, declared_sync}
use denote.RattleType.{RattleType}
use denote.Struct.Field.{row_field}
use Rattle.std.proofs.Crossing.{Arc-send, Arc-sync, crosses, frees, send, sync}
use Rattle.std.proofs.MapsCrossing.{crosses as maps}
use Rattle.std.specs.contracts.alloc.Global as Global
use Rattle.std.specs.contracts.impls.GlobalAllocator.TheImpl as allocator
use Rattle.std.proofs.sync.ledger.Book.TheSendSync as book
use Rattle.std.proofs.option.Option.TheSendSync as option
use Rattle.std.proofs.sync.ledger.Share.TheSendSync as share
use Rattle.std.specs.contracts.sync.Mutex as Mutex
use Rattle.std.specs.declared.sync.ledger.Ledger as ledger
use Rattle.crossbeam_utils.specs.declared.rule.Protocol as protocol
use Rattle.left_right.proofs.reader.Reader.TheSendSync as reader
use Rattle.left_right.specs.declared.Absorb as absorb
use Rattle.left_right.proofs.writer.Writer.TheSendSync as writer
use Rattle.left_right.specs.contracts.reader.Reader as Reader
use Rattle.left_right.specs.contracts.writer.Writer as Writer
use Rattle.mg_live.proofs.commit_log.LogWriter.TheSendSync as log_writer
use Rattle.mg_engine.specs.contracts.engine.Engine as Engine
use Rattle.mg_engine.specs.contracts.engine.Engine.TheInside as engine
use Rattle.mg_engine.specs.contracts.state.State as State
use Rattle.mg_index.proofs.definition.IndexDef.TheSendSync as definition
use Rattle.mg_live.specs.contracts.database.WaitForReaders as WaitForReaders
use Rattle.mg_live.specs.contracts.desk.Desk as Desk
use Rattle.mg_live.specs.contracts.desk.Desk.TheInside as desk
use Rattle.mg_live.specs.contracts.tally.Tally.TheInside as tally
use Rattle.mg_live.proofs.commit_log.Prefix.TheSendSync as prefix
use Rattle.mg_live.specs.contracts.markers.SnapshotRule as SnapshotRule
use Rattle.mg_live.specs.contracts.markers.SnapshotRuleProtocolSnapshotUnit.TheImpl as protocol_of
use Rattle.mg_live.specs.contracts.publication.SnapshotAbsorbUnit.TheImpl as absorb_of
use Rattle.mg_live.specs.contracts.seat.Seat.TheInside as seat
use Rattle.mg_live.specs.contracts.seat.Seat as Seat
use Rattle.mg_live.specs.contracts.snapshot.Snapshot as Snapshot
use Rattle.mg_live.specs.contracts.tally.Tally as Tally
use Rattle.mg_live.specs.declared.database.Database as database
use Rattle.mg_live.specs.declared.database.Keeper as keeper
use Rattle.mg_shard.proofs.Crossing.{shard_send, shard_sync}
use Rattle.mg_machine.specs.contracts.point.Point as Point
use Rattle.mg_shard.specs.contracts.placement.Md5Placement as Md5Placement
use Rattle.mg_shard.specs.contracts.placement.Md5PlacementPlacement.TheImpl as md5
use Rattle.mg_shard.specs.declared.placement.Placement as placement

state_send : IsSend State.the_row
state_send = search (sendable, crosses, maps, shard_send, shard_sync, definition.the_send, definition.the_sync) depth 40

state_sync : IsSync State.the_row
state_sync = search (sendable, crosses, maps, shard_send, shard_sync, definition.the_send, definition.the_sync) depth 40

-- ---- snapshots

module _ (P : RattleType) (s : IsSend P) (y : IsSync P) where
  engine_send : IsSend (Engine.the_row P)
  engine_send = view_send _ _ _ _ _ (declared_send (engine.the_type P) (Arc-send P s y, (state_send, tt)))

  engine_sync : IsSync (Engine.the_row P)
  engine_sync = view_sync _ _ _ _ _ (declared_sync (engine.the_type P) (Arc-sync P s y, (state_sync, tt)))

  point_send : IsSend (Point.the_row P)
  point_send = declared_send (Point.the_type P) (Arc-send (Engine.the_row P) engine_send engine_sync, (search sendable depth 10, tt))

  point_sync : IsSync (Point.the_row P)
  point_sync = declared_sync (Point.the_type P) (Arc-sync (Engine.the_row P) engine_send engine_sync, (search sendable depth 10, tt))

  pub snapshot_send : IsSend (Snapshot.the_row P)
  snapshot_send = declared_send (Snapshot.the_type P) (point_send, (prefix.the_send, tt))

  pub snapshot_sync : IsSync (Snapshot.the_row P)
  snapshot_sync = declared_sync (Snapshot.the_type P) (point_sync, (prefix.the_sync, tt))

tally_send : (D : RattleType) (l : ledger.Ghosts D.Denot) → IsSend (Tally.the_row D l)
tally_send D l = view_send _ _ _ _ _ (declared_send (tally.the_type D l) (search sendable depth 10, (share.the_send D l, tt)))

mutex_send : (R : RattleType) → IsSend R → IsSend (Mutex.the_row R)
mutex_send R s = search (sendable, crosses, s) depth 20

mutex_sync : (R : RattleType) → IsSend R → IsSync (Mutex.the_row R)
mutex_sync R s = search (sendable, crosses, s) depth 20

unit_send : IsSend unit
unit_send = search sendable depth 10

-- ---- a database, what keeps its commits, and the placement of its documents

module _ (D C P : RattleType) (d : database.Ghosts D.Denot) (l : ledger.Ghosts D.Denot) (k : keeper.Ghosts C.Denot) (p : placement.Ghosts P.Denot) (b : absorb.Ghosts (Snapshot.the_row P).Denot unit.Denot unit.Denot) (c : IsSend C) (s : IsSend P) (y : IsSync P) where
  abbrev rule : protocol.Ghosts (SnapshotRule.the_row D P).Denot (Snapshot.the_row P).Denot unit.Denot
  rule = protocol_of.ghosts D P d protocol_of.no_dict l protocol_of.no_dict p protocol_of.no_dict

  abbrev Reads : RattleType
  Reads = Reader.the_row (Snapshot.the_row P) unit (SnapshotRule.the_row D P) Global.the_row rule allocator.ghosts

  reads_send : IsSend Reads
  reads_send = reader.the_send (Snapshot.the_row P) unit (SnapshotRule.the_row D P) Global.the_row rule allocator.ghosts send (snapshot_sync P s y) sync frees

  abbrev Writes : RattleType
  Writes = Writer.the_row (Snapshot.the_row P) unit unit (SnapshotRule.the_row D P) Global.the_row unit b rule allocator.ghosts

  writes_send : IsSend Writes
  writes_send =
      writer.the_send (Snapshot.the_row P) unit unit (SnapshotRule.the_row D P) Global.the_row unit b rule allocator.ghosts (snapshot_send P s y) unit_send send (snapshot_sync P s y) sync frees

  desk_send : IsSend (Desk.the_row D C P b d l k p)
  desk_send = view_send _ _ _ _ _ (declared_send (desk.the_type D C P b d l k p) (log_writer.the_send, (writes_send, (book.the_send D l, (as_row_send (row_field C) c, tt)))))

  lock_send : IsSend (Mutex.the_row (Desk.the_row D C P b d l k p))
  lock_send = mutex_send (Desk.the_row D C P b d l k p) desk_send

  lock_sync : IsSync (Mutex.the_row (Desk.the_row D C P b d l k p))
  lock_sync = mutex_sync (Desk.the_row D C P b d l k p) desk_send

  -- a seat is `Send` if what keeps its commits is `Send`, and the placement of its documents is `Send` and `Sync`
  pub seat_send_by : IsSend (Seat.the_row D C P d l k p b)
  seat_send_by = view_send _ _ _ _ _ (declared_send (seat.the_type D C P d l k p b) (
    search sendable depth 10,
    (
      send,
      (
        prefix.the_send,
        (
          tally_send D l,
          (
            option.the_send Reads reads_send,
            (Arc-send (Mutex.the_row (Desk.the_row D C P b d l k p)) lock_send lock_sync, tt),
          ),
        ),
      ),
    ),
  ))

-- ---- the program's seats

-- `WaitForReaders` is `Send` if its runtime is
pub waiting_send : (R : RattleType) → IsSend R → IsSend (WaitForReaders.the_row R)
waiting_send R s = declared_send (WaitForReaders.the_type R) (as_row_send (row_field R) s, tt)

-- a seat over the program's placement is `Send` if what keeps its commits is
pub seat_send : (D C : RattleType) (d : database.Ghosts D.Denot) (l : ledger.Ghosts D.Denot) (k : keeper.Ghosts C.Denot) → IsSend C → IsSend (Seat.the_row D C Md5Placement.the_row d l k md5.ghosts (absorb_of.ghosts Md5Placement.the_row))
seat_send D C d l k c = seat_send_by D C Md5Placement.the_row d l k md5.ghosts (absorb_of.ghosts Md5Placement.the_row) c (search sendable depth 10) (search sendable depth 10)
