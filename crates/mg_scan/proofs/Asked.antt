-- A search may be shared by threads (`Sync`).
use denote.Enum.Declared as E
use denote.Enum.Enum.{Enum}
use denote.Hole.Fix.{holes}
use denote.Hole.FixLaws.{layer_row}
use denote.Hole.FixSend.{fix_pulls}
use denote.Model.Goals.{Has, send, sync}
use denote.Param.Send.{IsSend, IsSync, enum_sync, recorded_send, recorded_sync, sendable, struct_send, struct_sync}
use denote.Param.SendFields.{declared_send, declared_sync, variants_sync, as_row_send, as_row_sync}
use denote.Struct.Declared as S
use denote.Struct.Field.{row_field}
use denote.Struct.Struct.{Struct}
use Rattle.std.proofs.Common.{Bool, true, false, cond}
use Rattle.std.proofs.Crossing.{Arc-send, Arc-sync, crosses}
use Rattle.std.proofs.MapsCrossing.{crosses as maps}
use Rattle.std.proofs.option.Option.TheSendSync as option
use Rattle.mg_index.specs.contracts.definition.IndexDef as IndexDef
use Rattle.mg_index.proofs.definition.IndexDef.TheSendSync as definition
use Rattle.mg_normal.specs.contracts.atom.Atom as Atom
use Rattle.mg_normal.specs.contracts.condition.Condition as Condition
use Rattle.mg_normal.specs.contracts.normal.Normal as Normal
use Rattle.mg_normal.specs.contracts.prefix.Prefix as Prefix
use Rattle.mg_path.proofs.path.Path.TheSendSync as path
use Rattle.mg_range.proofs.row_range.SpanEnds.TheSendSync as ends
use Rattle.mg_range.specs.contracts.range.KeyRange as KeyRange
use Rattle.mg_range.specs.contracts.row_range.RowRange as RowRange
use Rattle.mg_range.specs.contracts.span.Limit as Limit
use Rattle.mg_range.specs.contracts.span.Span as Span
use Rattle.mg_scan.specs.contracts.search.Search as Search
use Rattle.mg_scan.specs.contracts.target_ref.TargetRef as TargetRef
use Rattle.mg_scan.proofs.Values.{json_field_sync, json_sync}
use Rattle.mg_rows.proofs.row.RowBytes.TheSendSync as rows
use Rattle.mg_selector.specs.contracts.operator.Op as Op
use Rattle.mg_selector.specs.contracts.selector.Sel as Sel
use Rattle.mg_shard.proofs.index_ref.IndexRef.TheSendSync as index

-- ---- ranges

limit_sync : IsSync Limit.the_row
limit_sync = search (sendable, crosses, maps, json_field_sync) depth 40

span_sync : IsSync Span.the_row
span_sync = search (sendable, crosses, maps, json_sync, limit_sync) depth 40

pub range_sync : IsSync KeyRange.the_row
range_sync = search (sendable, crosses, maps, span_sync) depth 40

pub row_range_sync : (κs : _) → IsSync (RowRange.the_row κs)
row_range_sync κs = search (sendable, crosses, maps, range_sync, ends.the_sync) depth 40

-- ---- selectors and operators, which contain one another

ring_sync : (g : Bool) → IsSync (holes Sel.the_ring (cond g Sel.the_member Op.the_member))
ring_sync =
    fix_pulls Sel.the_ring (record { G = Bool; member = λ g. cond g Sel.the_member Op.the_member; law = λ _. sync }) (λ h pull all g.
    let a = all true in
    let b = all false in
    elim g as (λ f. Has sync (layer_row Sel.the_ring (cond f Sel.the_member Op.the_member) h)) [
      | true ↦ let T = Sel.the_layer h in recorded_sync (Enum (E.shape T)) T.D T.to T.to_one (enum_sync (E.shape T) ((search (sendable, crosses, maps, a) depth 20, tt), ((search (sendable, crosses, maps, a) depth 20, tt), ((search (sendable, crosses, maps, a) depth 20, tt), ((search (sendable, crosses, maps, a) depth 20, tt), ((search (sendable, crosses, maps, a) depth 20, tt), ((search (sendable, crosses, maps, path.the_sync) depth 20, (search (sendable, crosses, maps, a) depth 20, tt)), ((b, tt), tt))))))))
      | false ↦ let T = Op.the_layer h in recorded_sync (Enum (E.shape T)) T.D T.to T.to_one (enum_sync (E.shape T) ((json_sync, tt), ((json_sync, tt), ((json_sync, tt), ((json_sync, tt), ((json_sync, tt), ((json_sync, tt), ((search (sendable, crosses, maps) depth 20, tt), ((search (sendable, crosses, maps) depth 20, tt), ((search (sendable, crosses, maps, json_sync) depth 20, tt), ((search (sendable, crosses, maps, json_sync) depth 20, tt), ((search (sendable, crosses, maps) depth 20, tt), ((search (sendable, crosses, maps) depth 20, (search (sendable, crosses, maps) depth 20, tt)), ((search (sendable, crosses, maps, json_sync) depth 20, tt), ((search (sendable, crosses, maps, a) depth 20, tt), ((search (sendable, crosses, maps, a) depth 20, tt), tt))))))))))))))))
    ])

sel_hole : IsSync Sel.the_hole
sel_hole = ring_sync true

op_sync : IsSync Op.the_row
op_sync = variants_sync Op.enum ((search (sendable, crosses, maps, as_row_sync, json_sync) depth 20, tt), ((search (sendable, crosses, maps, as_row_sync, json_sync) depth 20, tt), ((search (sendable, crosses, maps, as_row_sync, json_sync) depth 20, tt), ((search (sendable, crosses, maps, as_row_sync, json_sync) depth 20, tt), ((search (sendable, crosses, maps, as_row_sync, json_sync) depth 20, tt), ((search (sendable, crosses, maps, as_row_sync, json_sync) depth 20, tt), ((search (sendable, crosses, maps, as_row_sync) depth 20, tt), ((search (sendable, crosses, maps, as_row_sync) depth 20, tt), ((search (sendable, crosses, maps, as_row_sync, json_sync) depth 20, tt), ((search (sendable, crosses, maps, as_row_sync, json_sync) depth 20, tt), ((search (sendable, crosses, maps, as_row_sync) depth 20, tt), ((search (sendable, crosses, maps, as_row_sync) depth 20, (search (sendable, crosses, maps, as_row_sync) depth 20, tt)), ((search (sendable, crosses, maps, as_row_sync, json_sync) depth 20, tt), ((search (sendable, crosses, maps, as_row_sync, sel_hole) depth 20, tt), ((search (sendable, crosses, maps, as_row_sync, sel_hole) depth 20, tt), tt)))))))))))))))

op_field_sync : IsSync (Op.the_field).row
op_field_sync = enum_sync (E.shape Op.the_type) ((json_field_sync, tt), ((json_field_sync, tt), ((json_field_sync, tt), ((json_field_sync, tt), ((json_field_sync, tt), ((json_field_sync, tt), ((search (sendable, crosses, maps) depth 20, tt), ((search (sendable, crosses, maps) depth 20, tt), ((search (sendable, crosses, maps, json_sync) depth 20, tt), ((search (sendable, crosses, maps, json_sync) depth 20, tt), ((search (sendable, crosses, maps) depth 20, tt), ((search (sendable, crosses, maps) depth 20, (search (sendable, crosses, maps) depth 20, tt)), ((search (sendable, crosses, maps, json_sync) depth 20, tt), ((search (sendable, crosses, maps, sel_hole) depth 20, tt), ((search (sendable, crosses, maps, sel_hole) depth 20, tt), tt)))))))))))))))

-- ---- conditions

condition_ring : IsSync (holes Condition.the_ring Condition.the_member)
condition_ring =
    fix_pulls Condition.the_ring (record { G = Unit {0}; member = λ _. Condition.the_member; law = λ _. sync }) (λ h pull all g.
    let a = all tt in
    let T = Condition.the_layer h in
    recorded_sync (Enum (E.shape T)) T.D T.to T.to_one (enum_sync (E.shape T) ((search (sendable, crosses, maps, a) depth 20, tt), ((search (sendable, crosses, maps, a) depth 20, tt), ((search (sendable, crosses, maps, path.the_sync) depth 20, (search (sendable, crosses, maps, a) depth 20, tt)), ((op_sync, (search (sendable, crosses, maps) depth 20, tt)), tt)))))) tt

condition_hole : IsSync Condition.the_hole
condition_hole = condition_ring

condition_sync : IsSync Condition.the_row
condition_sync = variants_sync Condition.enum ((search (sendable, crosses, maps, as_row_sync, condition_hole) depth 20, tt), ((search (sendable, crosses, maps, as_row_sync, condition_hole) depth 20, tt), ((search (sendable, crosses, maps, as_row_sync, path.the_sync) depth 20, (search (sendable, crosses, maps, as_row_sync, condition_hole) depth 20, tt)), ((search (sendable, crosses, maps, as_row_sync, op_sync) depth 20, (search (sendable, crosses, maps, as_row_sync) depth 20, tt)), tt))))

-- ---- atoms, and the prefixes that they share, each of which has the one above it

prefix_ring : (g : Bool) → Has (cond g send sync) (holes Prefix.the_ring Prefix.the_member)
prefix_ring =
    fix_pulls Prefix.the_ring (record { G = Bool; member = λ _. Prefix.the_member; law = λ g. cond g send sync }) (λ h pull all g.
    let s : IsSend (h Prefix.the_member) = all true in
    let y : IsSync (h Prefix.the_member) = all false in
    let T = Prefix.the_layer h in
    elim g as (λ f. Has (cond f send sync) (layer_row Prefix.the_ring Prefix.the_member h)) [
      | true ↦ recorded_send (Struct (S.shape T)) T.D T.to T.to_one (struct_send (S.shape T) (option.the_send _ (Arc-send (h Prefix.the_member) s y), (search (sendable, crosses, maps, as_row_send, path.the_send, path.the_sync) depth 20, tt)))
      | false ↦ recorded_sync (Struct (S.shape T)) T.D T.to T.to_one (struct_sync (S.shape T) (option.the_sync _ (Arc-sync (h Prefix.the_member) s y), (search (sendable, crosses, maps, as_row_sync, path.the_send, path.the_sync) depth 20, tt)))
    ])

prefix_hole_send : IsSend Prefix.the_hole
prefix_hole_send = prefix_ring true

prefix_hole_sync : IsSync Prefix.the_hole
prefix_hole_sync = prefix_ring false

prefix_send : IsSend Prefix.the_row
prefix_send = declared_send Prefix.the_type (as_row_send (row_field _) (option.the_send _ (Arc-send _ prefix_hole_send prefix_hole_sync)), (search (sendable, crosses, maps, as_row_send, path.the_send, path.the_sync) depth 20, tt))

prefix_sync : IsSync Prefix.the_row
prefix_sync = declared_sync Prefix.the_type (as_row_sync (row_field _) (option.the_sync _ (Arc-sync _ prefix_hole_send prefix_hole_sync)), (search (sendable, crosses, maps, as_row_sync, path.the_send, path.the_sync) depth 20, tt))

atom_sync : IsSync Atom.the_row
atom_sync = search (sendable, crosses, maps, option.the_sync, op_field_sync, prefix_send, prefix_sync) depth 40

pub normal_sync : IsSync Normal.the_row
normal_sync = search (sendable, crosses, maps, atom_sync, condition_sync) depth 40

-- ---- the whole search

target_sync : (κs : _) → IsSync (TargetRef.the_row κs)
target_sync κs = search (sendable, crosses, maps, index.the_sync) depth 40

pub search_sync : (κs : _) → IsSync (Search.the_row κs)
search_sync κs = search (sendable, crosses, maps, normal_sync, row_range_sync, rows.the_sync, target_sync) depth 60

-- ---- the definition of an index

pub definition_sync : IsSync IndexDef.the_row
definition_sync = definition.the_sync
