use Rattle.std.proofs.Common.{◌≡◌, List, [], ◌∷◌, map, length, Some, refl, ap}
use Rattle.std.proofs.Common.{arith}
use Rattle.mg_engine.specs.Commands.{Asked, Answer}
use Rattle.mg_engine.specs.Execution.{answered_commands, answers_of}
use Rattle.mg_engine.proofs.laws.where_memory_suffices.Goals as goal

all_answered : (cs : List Asked) (answers : List Answer) → length answers ≡ length cs → answered_commands cs (map Some answers) ≡ cs
all_answered [] answers h = refl
all_answered (c ∷ cs) [] h = refl
all_answered (c ∷ cs) (a ∷ answers) h = ap (λ ds. c ∷ ds) (all_answered cs answers (omega arith))

all_answers : (answers : List Answer) → answers_of (map Some answers) ≡ answers
all_answers [] = refl
all_answers (a ∷ answers) = ap (λ bs. a ∷ bs) (all_answers answers)

pub returns : goal.returns
returns c = record { commands = all_answered; answers = all_answers }
