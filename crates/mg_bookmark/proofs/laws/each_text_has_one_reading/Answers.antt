use Rattle.mg_bookmark.proofs.Readings.{is_read_as, one_reading}
use Rattle.mg_bookmark.proofs.laws.each_text_has_one_reading.Goals as goal

pub returns : goal.returns
returns c = record { some = is_read_as; one = one_reading }
