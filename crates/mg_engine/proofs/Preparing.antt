-- What was read of a bulk determines its answer and the world that it leaves.
use Rattle.std.proofs.Common.{◌≡◌, Some, Result, Ok, refl, ap, ◌∙◌}
use Rattle.mg_value.specs.Value.{Value}
use Rattle.mg_engine.specs.Bulk.{Bulk, BulkEdits, bulk_of, edits_of, edits_or_refusal, edits_read}
use Rattle.mg_engine.specs.Commands.{bulk, bulk_effect}
use Rattle.mg_engine.specs.Prepared.{Makes}
use Rattle.mg_engine.specs.declared.refusal.Refusal.{Refusal}
use Rattle.mg_engine.proofs.Objects.{edits_bring_objects}

-- a bulk whose documents were all read
pub all_read : (v : Value) (b : Bulk) (es : BulkEdits) → bulk_of v ≡ Some b → edits_or_refusal b.new_edits (edits_of b.new_edits b.documents) ≡ Ok es
    → Makes es.new_edits es.edits (bulk v)
all_read v b es is read =
    let bulk_is : edits_read (bulk_of v) ≡ Ok es = ap edits_read is ∙ read in
    record {
      objects = edits_bring_objects b.new_edits b.documents es read;
      reply = λ w. ap (λ (r : Result BulkEdits Refusal). (bulk_effect w r).answer) bulk_is;
      world = λ w. ap (λ (r : Result BulkEdits Refusal). (bulk_effect w r).world) bulk_is;
      shards = λ n. refl;
    }
