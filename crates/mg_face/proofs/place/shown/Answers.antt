use Rattle.std.proofs.Common.{sym, arith}
use Rattle.std.proofs.lemmas.List.{take_all}
use Rattle.mg_face.proofs.place.shown.Goals as goal

pub returns-then-word-lt-SHOWN : goal.returns-then-word-lt-SHOWN
returns-then-word-lt-SHOWN c = sym (take_all 40 c.args.word.now (omega arith))
