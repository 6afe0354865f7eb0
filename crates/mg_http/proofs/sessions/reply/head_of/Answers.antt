use Rattle.mg_http.proofs.ReplyLemmas.{phrase_short}
use Rattle.mg_http.proofs.sessions.reply.head_of.Goals as goal

pub head_with-requires-clause-phrase : goal.head_with-requires-clause-phrase
head_with-requires-clause-phrase c = rw (c.as_bytes-2.ensures.value, c.phrase.ensures) (phrase_short c.args.status)
