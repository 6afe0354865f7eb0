-- The text of a write: what is written reads as the write.
use Rattle.std.proofs.Common.{◌≡◌, ◌≤◌, ℕ, List, [], ◌∷◌, ◌++◌, length, length-append, IsUtf8, string_bytes, refl, ap, sym, ◌∙◌, subst, arith}
use Rattle.std.proofs.lemmas.List.{append-nil, map-append, nil_from_length}
use Rattle.mg_value.specs.Held.{IsHeld, ItemsAreHeld, MembersAreHeld}
use Rattle.mg_value.specs.Stored.{AreStored, IsStored, MembersAreStored}
use Rattle.mg_value.specs.Text.{Reads, compact}
use Rattle.mg_value.specs.Value.{Value, null, flag, whole, text, list, object, Items, no_items, item, Members, no_members, member}
use Rattle.mg_value.proofs.Compact.{reads_compact}
use Rattle.mg_engine.specs.Commands.{Asked}
use Rattle.mg_machine.specs.Laws.{IsPrefix}
use Rattle.mg_machine.specs.Machine.{Commit, commands_of}
use Rattle.mg_live.specs.Keeping.{HasText, IsRecordOf, IsTextOf}
use Rattle.mg_live.specs.declared.record.Record.{Record}
use Rattle.mg_live.specs.declared.record.RecordKind.{RecordKind}

mutual
  held : (v : Value) → IsStored v → IsHeld v
  held null h = tt
  held (flag b) h = tt
  held (whole z) h = h
  held (text s) h = tt
  held (list vs) h = items_held vs h
  held (object ms) h = members_held ms h

  items_held : (vs : Items) → AreStored vs → ItemsAreHeld vs
  items_held no_items h = tt
  items_held (item v vs) h = (held v h.0, items_held vs h.1)

  members_held : (ms : Members) → MembersAreStored ms → MembersAreHeld ms
  members_held no_members h = tt
  members_held (member k v ms) h = (h.0, held v h.2, members_held ms h.3)

-- the compact text of a value is a text of it
pub has_compact : (bytes : List ℕ) (v : Value) → IsUtf8 bytes → bytes ≡ compact v → HasText bytes v
has_compact bytes v utf8 is stored shallow =
    subst (λ (b : List ℕ). Reads b v) (sym is) (reads_compact v (held v stored) shallow (subst IsUtf8 is utf8))

pub has_read : (bytes : List ℕ) (v : Value) → Reads bytes v → HasText bytes v
has_read bytes v reads stored shallow = reads

pub is_record : (r : Record) (k : RecordKind) (bytes : List ℕ) (c : Asked) → r.kind ≡ k → string_bytes r.body ≡ bytes → IsTextOf k bytes c → IsRecordOf r c
is_record r k bytes c kind body is = rw (kind, body) is

-- the commands of one more commit
pub one_more_command : (cs ds : List Commit) (c : Commit) → ds ≡ cs ++ c ∷ [] → commands_of ds ≡ commands_of cs ++ c.1 ∷ []
one_more_command cs ds c is = ap commands_of is ∙ map-append (λ (d : Commit). d.1) cs (c ∷ [])

-- a prefix that is as long as the whole is the whole
pub whole_prefix : (cs ds : List Commit) → IsPrefix cs ds → length cs ≡ length ds → ds ≡ cs
whole_prefix cs ds p same =
    let none : length p.0 ≡ 0 = omega (arith, same, ap length p.1, length-append cs p.0) in
    p.1 ∙ ap (λ (rest : List Commit). cs ++ rest) (nil_from_length p.0 none) ∙ append-nil cs
