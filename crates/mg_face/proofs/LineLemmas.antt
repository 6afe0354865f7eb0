-- A value is read from its line.
use Rattle.std.proofs.Common.{◌≡◌, ℕ, ◌-◌, ◌≤◌, List, [], ◌∷◌, ◌++◌, length, take, length-append, Option, Some, None, refl, ap, ◌∙◌, arith}
use Rattle.std.specs.Prelude.{IsUtf8, codes, option_and_then}
use Rattle.std.proofs.Math.Seq.{take-append_seam}
use Rattle.json.proofs.Printed.Utf8.{IsUtf8-are_ascii}
use Rattle.http1.specs.Fields.{Header}
use Rattle.mg_value.specs.Held.{IsHeld}
use Rattle.mg_value.specs.Text.{compact}
use Rattle.mg_value.specs.Value.{Value, depth, list, no_items}
use Rattle.mg_value.proofs.Compact.{reads_compact}
use Rattle.mg_revtree.specs.Revision.{Revision, revision_text}
use Rattle.mg_engine.specs.Bodies.{line_of}
use Rattle.mg_engine.specs.Bulk.{done_entry, refused_entry}
use Rattle.mg_engine.specs.Commands.{ok_answer}
use Rattle.mg_engine.specs.Refusals.{refusal_line}
use Rattle.mg_wire.specs.declared.status.Status.TheVariants as Status
use Rattle.mg_face.specs.declared.edited.Change.{Change}
use Rattle.mg_face.specs.Answer.{document_answer, json}
use Rattle.mg_face.specs.Edited.{only_item, edited, answer_with, list_with, made_answer, no_entry, one_entry}
use Rattle.mg_face.specs.Json.{json_of, string_at, text_at, value_of_line}
use Rattle.mg_face.specs.Shown.{shown}
use Rattle.mg_face.specs.Replica.{made_entry}
use Rattle.mg_face.specs.Way as Way
use Rattle.mg_face.proofs.JsonLemmas.{reads_json}
use Rattle.mg_face.proofs.RevisionLemmas.{text_at_compact}

front : (s : List ℕ) (b : ℕ) → take (length (s ++ b ∷ []) - 1) (s ++ b ∷ []) ≡ s
front s b =
    let n : length (s ++ b ∷ []) - 1 ≡ length s = omega (arith, length-append s (b ∷ [])) in
    ap (λ (k : ℕ). take k (s ++ b ∷ [])) n ∙ take-append_seam s (b ∷ [])

pub read_line : (v : Value) → IsHeld v → depth v ≤ 127 → IsUtf8 (compact v) → value_of_line (line_of v) ≡ Some v
read_line v held deep utf8 = ap json_of (front (compact v) 10) ∙ reads_json (compact v) v (reads_compact v held deep utf8)

pub tag_shown : (db : List ℕ) (fields : List Header) (v : Value) → IsHeld v → depth v ≤ 127 → IsUtf8 (compact v)
    → shown db fields Way.document (ok_answer v) ≡ document_answer fields (string_at (codes "_rev") v) (json Status.Ok (line_of v))
tag_shown db fields v held deep utf8 =
    ap (λ (o : Option (List ℕ)). document_answer fields o (json Status.Ok (line_of v)))
    (ap (text_at (codes "_rev")) (front (compact v) 10) ∙ text_at_compact (codes "_rev") v held deep utf8)

pub made_shown : (db id : List ℕ) (change : Change) (r : Revision) → IsUtf8 (compact (list_with (done_entry id r)))
    → edited db change None (one_entry (done_entry id r)) ≡ made_answer db change (done_entry id r) (revision_text r)
made_shown db id change r utf8 =
    let read = read_line (list_with (done_entry id r)) (((refl, (refl, tt)), tt, ((refl, tt), tt, (tt, tt, tt))), tt) (omega arith) utf8 in
    ap (λ (o : Option Value). answer_with db change (one_entry (done_entry id r)) (option_and_then (only_item None) o)) read

pub refused_shown : (db error id reason : List ℕ) (change : Change) → IsUtf8 (compact (list_with (refused_entry error id reason)))
    → edited db change None (one_entry (refused_entry error id reason)) ≡ json Status.Conflict (refusal_line error reason)
refused_shown db error id reason change utf8 =
    let read = read_line (list_with (refused_entry error id reason)) (((refl, (refl, tt)), tt, ((refl, tt), tt, (tt, tt, tt))), tt) (omega arith) utf8 in
    ap (λ (o : Option Value). answer_with db change (one_entry (refused_entry error id reason)) (option_and_then (only_item None) o)) read

pub replicated_shown : (db id revision : List ℕ) (change : Change) → edited db change (Some (made_entry id revision)) no_entry ≡ made_answer db change (made_entry id revision) revision
replicated_shown db id revision change =
    let read = read_line (list no_items) tt (omega arith) (IsUtf8-are_ascii (91 ∷ 93 ∷ []) refl) in
    ap (λ (o : Option Value). answer_with db change no_entry (option_and_then (only_item (Some (made_entry id revision))) o)) read
