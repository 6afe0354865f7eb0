use Rattle.mg_bookmark.proofs.Readings.{read_of_spelled, spelled_of_read}
use Rattle.mg_bookmark.proofs.laws.reading_gives_what_is_spelled.Goals as goal

pub returns : goal.returns
returns c = λ t p. (read_of_spelled t p, spelled_of_read t p)
