-- Collections may cross threads where their elements may.
use denote.Param.Send.{IsSend, IsSync, recorded_send, recorded_sync, sendable, struct_send, struct_sync, view_send, view_sync}
use denote.RattleType.{RattleType}
use denote.Struct.Declared as Declared
use denote.Struct.Field.{row_field}
use Rattle.std.proofs.Crossing.{crosses}
use Rattle.mg_pages.proofs.tree.Child.TheLaws.TheKnot.{both_send-Child, both_sync-Child}
use Rattle.mg_pages.specs.contracts.pages.Pages as Pages
use Rattle.mg_pages.specs.contracts.pages.Pages.TheInside as Inside
use Rattle.mg_pages.specs.contracts.tree.Child as Child
use Rattle.std.specs.contracts.alloc.Global as Global
use Rattle.std.specs.contracts.impls.GlobalAllocator.TheImpl as TheImpl
use Rattle.std.specs.contracts.vec.Vec as Vec

module _ (T : RattleType) (send : IsSend T) (sync : IsSync T) where
  pub child_send : IsSend (Child.the_row T)
  child_send =
      both_send-Child T
      (search (sendable, crosses))
      (λ h a b. search (sendable, crosses, a, b) depth 20)
      (recorded_send (row_field T).row (row_field T).Value (row_field T).into (row_field T).into_one send)
      (search (sendable, crosses))
      (search (sendable, crosses, send) depth 20)
      (λ h a b. search (sendable, crosses, a) depth 20)
      (search (sendable, crosses))
      (λ h a b. search (sendable, crosses, a, b) depth 20)
      (recorded_sync (row_field T).row (row_field T).Value (row_field T).into (row_field T).into_one sync)
      (search (sendable, crosses))
      (search (sendable, crosses, sync) depth 20)
      (λ h a b. search (sendable, crosses, b) depth 20)

  pub child_sync : IsSync (Child.the_row T)
  child_sync =
      both_sync-Child T
      (search (sendable, crosses))
      (λ h a b. search (sendable, crosses, a, b) depth 20)
      (recorded_send (row_field T).row (row_field T).Value (row_field T).into (row_field T).into_one send)
      (search (sendable, crosses))
      (search (sendable, crosses, send) depth 20)
      (λ h a b. search (sendable, crosses, a) depth 20)
      (search (sendable, crosses))
      (λ h a b. search (sendable, crosses, a, b) depth 20)
      (recorded_sync (row_field T).row (row_field T).Value (row_field T).into (row_field T).into_one sync)
      (search (sendable, crosses))
      (search (sendable, crosses, sync) depth 20)
      (λ h a b. search (sendable, crosses, b) depth 20)

  list_send : IsSend (Vec.the_row (Child.the_row T) Global.the_row TheImpl.ghosts)
  list_send = search (sendable, crosses, child_send) depth 20

  list_sync : IsSync (Vec.the_row (Child.the_row T) Global.the_row TheImpl.ghosts)
  list_sync = search (sendable, crosses, child_sync) depth 20

  inside_send : (g : _) → IsSend (Inside.the_row T g)
  inside_send g =
      let field = Inside.the_field T g in
      recorded_send field.row field.Value field.into field.into_one (struct_send (Declared.shape (Inside.the_type T g)) (list_send, (search (sendable, crosses), tt)))

  inside_sync : (g : _) → IsSync (Inside.the_row T g)
  inside_sync g =
      let field = Inside.the_field T g in
      recorded_sync field.row field.Value field.into field.into_one (struct_sync (Declared.shape (Inside.the_type T g)) (list_sync, (search (sendable, crosses), tt)))

  pub pages_send : (g : _) → IsSend (Pages.the_row T g)
  pages_send g = view_send _ _ _ _ _ (inside_send g)

  pub pages_sync : (g : _) → IsSync (Pages.the_row T g)
  pages_sync g = view_sync _ _ _ _ _ (inside_sync g)
