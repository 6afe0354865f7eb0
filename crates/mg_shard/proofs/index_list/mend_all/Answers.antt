use Rattle.std.proofs.Common.{◌≡◌, ◌<◌, ◌≤◌, Some, get_or, length, slice_get, arith, refl, sym, ap, ◌∙◌}
use Rattle.std.proofs.lemmas.Option.{slice_get-get_or}
use Rattle.std.specs.FinMap.{insert}
use Rattle.mg_shard.specs.Documents.{docs_of, form_at, id_bytes, kept_of, kept_documents}
use Rattle.mg_shard.specs.Rows.{rows_of}
use Rattle.mg_shard.proofs.Catalogued.{mended_first, mended_last, mended_more, same_definitions}
use Rattle.mg_shard.proofs.index_list.mend_all.Goals as goal

pub loop-i-init : goal.loop-i-init
loop-i-init c = record {
  definitions = refl;
  mended = λ h. mended_first (kept_documents c.args.documents.now) (insert (kept_documents c.args.documents.now) (id_bytes c.args.document.now) (kept_of c.args.document.now)) c.args.indexes.now h;
}

pub loop-i-preserved : goal.loop-i-preserved
loop-i-preserved c =
    let l = c.loop-i in
    let xs = l.indexes in
    let x = get_or xs l.i c.index-indexes-i.result in
    let y = c.mend.new.self in
    let old = kept_documents c.args.documents.now in
    let d = kept_of c.args.document.now in
    let id = id_bytes c.args.document.now in
    let new = insert old id d in
    let within : l.i < length xs = omega arith in
    let at : slice_get xs l.i ≡ Some x = slice_get-get_or xs l.i c.index-indexes-i.result within in
    record {
      definitions = same_definitions xs l.i x y at c.in_ok-mend.ensures.definition ∙ l.invariant.definitions;
      mended = λ h. mended_more old new xs l.i x y at within
          (λ were.
          c.in_ok-mend.ensures.rows old d (c.form_at-before.ensures ∙ ap (form_at old) (c.id.ensures ∙ sym c.id-in-loop-i.ensures)) c.written-after.ensures were
          ∙ ap (λ i. rows_of y.0.columns (docs_of (insert old i d))) c.id-in-loop-i.ensures)
          (l.invariant.mended h);
    }

pub returns-clause-rows : goal.returns-clause-rows
returns-clause-rows c = λ h.
    let l = c.loop-i in
    let old = kept_documents c.args.documents.now in
    let over : length l.indexes ≤ l.i = omega arith in
    mended_last old (insert old (id_bytes c.args.document.now) (kept_of c.args.document.now)) l.indexes l.i over (l.invariant.mended h)
