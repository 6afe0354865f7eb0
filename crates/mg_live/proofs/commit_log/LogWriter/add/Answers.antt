use Rattle.std.proofs.Common.{◌++◌, ◌∷◌, [], sym, ◌∙◌, ap}
use Rattle.mg_live.specs.Rules.{key_after}
use Rattle.mg_live.proofs.Adding.{adds_moves, last_key}
use Rattle.mg_live.proofs.commit_log.LogWriter.add.Goals as goal

pub compare_exchange-requires : goal.compare_exchange-requires
compare_exchange-requires c =
    let here = c.requires.here in
    let s = c.args.prefix.now in
    let again = c.again-seen.ensures in
    let offer = c.plain-offer.ensures in
    let book = ap (λ s. s.book) again ∙ sym (ap (λ w. w.book) here.count) in (
      ap (λ w. w.tracked) here.count,
      book,
      here.book ∙ sym (ap (λ w. w.book) here.count),
      offer.0,
      rw (ap (λ w. w.key) here.count, offer.1, offer.3, ap (λ s. s.log) again) (adds_moves s.seen.log _ _ s.count s.counted here.right here.key),
    )

pub returns-clause-here : goal.returns-clause-here
returns-clause-here c =
    let here = c.requires.here in
    let log = c.args.prefix.now.seen.log in
    let ask = c.plain-offer.result.ask in
    let added = c.compare_exchange.ensures.7 ∙ ap (λ s. s.log ++ ask ∷ []) c.again-seen.ensures in
    record {
      count = here.count;
      pens = here.pens;
      book = c.take_pen-next.ensures.pen.0;
      right = c.take_pen-next.ensures.pen.1;
      key = sym (ap (λ l. key_after 2 l) added ∙ last_key 2 log ask ∙ ap (λ e. e.next) c.plain-offer.ensures.1);
    }
