-- For private clauses: the right to add to the commit log.
use Rattle.std.specs.Prelude.{◌≡◌, List}
use Rattle.logbook.specs.Pages.{Book, may_write}
use Rattle.mg_live.specs.Rules.{count_word, key_after, pen_word}
use Rattle.mg_live.specs.declared.commit_log.LogWriter.{LogWriter}
use Rattle.mg_live.specs.declared.markers.Entry.{Entry}

-- the writer has the pen that adds an entry after these to the log of this book. Nobody else has it, so these are all entries of the log
pub record AddsAfter (w : LogWriter) (b : Book) (log : List Entry) : Type 0 where
  pub count : w.count ≡ count_word b
  pub pens : w.pens ≡ pen_word b
  pub book : w.pen.book ≡ b
  pub right : w.pen.nib.right ≡ may_write
  pub key : w.pen.nib.key ≡ key_after 2 log
