use Rattle.std.proofs.Common.{sym, ◌∙◌, ap}
use Rattle.mg_live.proofs.Adding.{takes_moves}
use Rattle.mg_live.proofs.commit_log.take_pen.Goals as goal

pub compare_exchange-found-requires : goal.compare_exchange-found-requires
compare_exchange-found-requires c =
    let word = c.requires in
    let again = c.again-seen.ensures in
    let offer = c.plain-offer.ensures in
    let pen = c.no_pen-pen.ensures in
    let book = ap (λ s. s.book) again ∙ sym (ap (λ w. w.book) word) in (
      ap (λ w. w.tracked) word,
      book,
      pen.0 ∙ book,
      offer.0,
      rw (ap (λ w. w.key) word, pen.1, offer.3) (takes_moves _ c.plain-offer.result.ask),
    )
