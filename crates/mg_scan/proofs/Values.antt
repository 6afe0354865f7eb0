-- JSON values may be shared by threads (`Sync`). They contain one another, so this is shown for one layer at a time.
use denote.Enum.Declared as E
use denote.Hole.Fix.{holes}
use denote.Hole.FixSend.{fix_pulls}
use denote.Model.Goals.{sync}
use denote.Enum.Enum.{Enum}
use denote.Param.Send.{IsSync, enum_sync, recorded_sync, sendable}
use denote.Param.SendFields.{variants_sync, as_row_sync}
use Rattle.std.proofs.Crossing.{crosses}
use Rattle.std.proofs.MapsCrossing.{BTreeMap-sync, String-sync, crosses as maps}
use Rattle.std.specs.contracts.alloc.Global as Global
use Rattle.std.specs.contracts.impls.GlobalAllocator.TheImpl as allocator
use Rattle.std.specs.contracts.impls.StringPartialEq.TheImpl as eq
use Rattle.std.specs.contracts.impls.StringPartialOrd.TheImpl as partial
use Rattle.mg_value.specs.contracts.value.Json as Json

ring_sync : IsSync (holes Json.the_ring Json.the_member)
ring_sync = fix_pulls Json.the_ring (record { G = Unit {0}; member = λ _. Json.the_member; law = λ _. sync }) (λ h pull all g. let s = all tt in let T = Json.the_layer h in recorded_sync (Enum (E.shape T)) T.D T.to T.to_one (enum_sync (E.shape T) (tt, ((search sendable depth 20, tt), ((search sendable depth 20, tt), ((search (sendable, crosses, maps) depth 20, tt), ((search (sendable, crosses, maps, s) depth 20, tt), ((BTreeMap-sync _ _ _ (eq.ghosts Global.the_row allocator.ghosts eq.no_dict eq.no_dict) (partial.ghosts Global.the_row allocator.ghosts partial.no_dict partial.no_dict) String-sync s, tt), tt)))))))) tt

hole_sync : IsSync Json.the_hole
hole_sync = ring_sync

pub json_sync : IsSync Json.the_row
json_sync =
    variants_sync Json.enum
    (tt, ((search (sendable, as_row_sync) depth 20, tt), ((search (sendable, as_row_sync) depth 20, tt), ((search (sendable, crosses, maps) depth 20, tt), ((search (sendable, crosses, maps, as_row_sync, hole_sync) depth 20, tt), ((search (sendable, crosses, maps, as_row_sync, hole_sync) depth 20, tt), tt))))))

-- the same for a value that is a field
pub json_field_sync : IsSync (Json.the_field).row
json_field_sync =
    enum_sync (E.shape Json.the_type)
    (tt, ((search sendable depth 20, tt), ((search sendable depth 20, tt), ((search (sendable, crosses, maps) depth 20, tt), ((search (sendable, crosses, maps, hole_sync) depth 20, tt), ((BTreeMap-sync _ _ _ (eq.ghosts Global.the_row allocator.ghosts eq.no_dict eq.no_dict) (partial.ghosts Global.the_row allocator.ghosts partial.no_dict partial.no_dict) String-sync hole_sync, tt), tt))))))
