use Rattle.std.proofs.Common.{◌∙◌, string_bytes, sym, ap, arith}
use Rattle.std.specs.List.{list_all}
use Rattle.std.proofs.lemmas.Grind.{common_steps}
use Rattle.mg_revtree.specs.Revision.{is_revision_id}
use Rattle.mg_revtree.proofs.Runs.{run_of_ids, run_of_none, run_of_long, run_of_bad}
use Rattle.mg_revtree.proofs.history.History.new.Goals as goal
use Rattle.mg_revtree.proofs.history.History.new.Goals.{then-is_empty-via-then-is_empty, then-is_empty-via-else-is_empty+then-len-start, then-is_empty-via-else-is_empty+else-len-start+then-not-are_ids}

pub returns-then-is_empty : goal.returns-then-is_empty
returns-then-is_empty c =
    let n = c.args.start in
    let xs = c.args.ids.items in
    elim c.then-is_empty.branch [
      | then-is_empty-via-then-is_empty w ↦ run_of_none string_bytes n xs (grind (arith, common_steps, c.is_empty.ensures, w.if-is_empty.true))
      | then-is_empty-via-else-is_empty+then-len-start w ↦ run_of_long string_bytes n xs (grind (arith, common_steps, w.len.ensures, w.if-len-start.true))
      | then-is_empty-via-else-is_empty+else-len-start+then-not-are_ids w ↦
          run_of_bad string_bytes n xs (grind (arith, common_steps, c.is_empty.ensures, w.if-is_empty.false)) (grind (arith, common_steps, w.len.ensures, w.if-len-start.false))
          (ap (list_all (λ id. is_revision_id (string_bytes id))) (sym w.deref.ensures.value) ∙ sym w.are_ids.ensures ∙ w.if-not-are_ids.true)
    ]

pub returns : goal.returns
returns c =
    run_of_ids string_bytes c.args.start c.args.ids.items (grind (arith, common_steps, c.is_empty.ensures, c.if-is_empty.false)) (grind (arith, common_steps, c.len.ensures, c.if-len-start.false))
    (ap (list_all (λ id. is_revision_id (string_bytes id))) (sym c.deref.ensures.value) ∙ sym c.are_ids.ensures ∙ c.if-not-are_ids.false)
