use Rattle.std.proofs.Common.{◌+◌, ◌-◌, List, [], ◌∷◌, ◌++◌, ap, ap₂, ◌∙◌, arith}
use Rattle.std.proofs.lemmas.List.{append-nil}
use Rattle.std.proofs.lemmas.List.Concat.{flat_map-append}
use Rattle.mg_pages.specs.Runs.{elements_view}
use Rattle.mg_shard.proofs.Extracting.{Piece, Run, take_more}
use Rattle.mg_shard.proofs.extracted.cut_pages.Goals as goal

pub pieces-preserved : goal.pieces-preserved
pieces-preserved c =
    let from = c.pieces.from in
    let to = from + c.min.result in
    record {
      pages = ap (λ (pieces : List Piece). elements_view pieces) c.in_ok-push.ensures.items
          ∙ flat_map-append (λ (p : Piece). p.now) c.pieces.pieces.items (_ ∷ [])
          ∙ ap₂ (λ (us vs : List Run). us ++ vs) c.pieces.invariant.pages (append-nil _)
          ∙ take_more from (to - from) to c.args.runs.now (omega arith);
      within = omega (arith, c.min.ensures, c.pieces-test.true, c.pieces.invariant.within);
    }
