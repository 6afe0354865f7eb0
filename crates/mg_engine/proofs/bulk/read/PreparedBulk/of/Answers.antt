use Rattle.std.proofs.Common.{◌∙◌, ap, sym}
use Rattle.mg_engine.specs.Bulk.{bulk_of}
use Rattle.mg_engine.specs.BulkView.{bulk_view, edits_view}
use Rattle.mg_engine.proofs.Preparing.{all_read}
use Rattle.mg_engine.proofs.bulk.read.PreparedBulk.of.Goals as goal

pub returns-in-Ok : goal.returns-in-Ok
returns-in-Ok c =
    let bulk_is = ap bulk_of (sym c.part.ensures) ∙ sym c.in-Some.ensures in
    all_read c.args.body.now (bulk_view c.in-Some.bulk) (edits_view c.in-Some.bulk.new_edits c.in-Ok.edits) bulk_is c.in-Ok.ensures
