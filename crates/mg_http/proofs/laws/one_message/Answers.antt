use Rattle.mg_http.proofs.MessageLemmas.{two_messages}
use Rattle.mg_http.proofs.laws.one_message.Goals as goal

pub returns : goal.returns
returns c = λ db bytes m n p q x y. two_messages db bytes m n p q x y
