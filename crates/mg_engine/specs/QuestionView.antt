-- What the program's questions stand for.
use Rattle.std.specs.Prelude.{map, option_map, string_bytes}
use Rattle.mg_engine.specs.Listing.{Listing}
use Rattle.mg_engine.specs.Questions.{Question, database, leaf, winner, keys, range, design}
use Rattle.mg_engine.specs.declared.listing.Listing as asked
use Rattle.mg_engine.specs.declared.question.Question as code
use Rattle.mg_engine.specs.declared.question.Question.TheVariants.{Database, Leaf, Winner, Keys, Range, Design}

-- the listing that a listing of the code stands for
abbrev pub listing_view : asked.Listing → Listing
listing_view l = record {
  start = option_map string_bytes l.start;
  last = option_map string_bytes l.last;
  with_last = l.with_last;
  descending = l.descending;
  limit = l.limit;
  skip = l.skip;
  documents = l.documents;
  conflicts = l.conflicts;
}

-- the question that a question of the code stands for
abbrev pub question_view : code.Question → Question
question_view Database = database
question_view (Leaf id rev latest path) = leaf (string_bytes id) rev latest path
question_view (Winner id more) = winner (string_bytes id) more
question_view (Keys ids documents) = keys (map string_bytes ids.items) documents
question_view (Range listing) = range (listing_view listing)
question_view (Design ddoc) = design (string_bytes ddoc)
