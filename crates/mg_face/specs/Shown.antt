-- How each answer of the database is shown.
use Rattle.std.specs.Prelude.{ℕ, ◌==◌, List, if◌then◌else◌}
use Rattle.http1.specs.Fields.{Header}
use Rattle.mg_engine.specs.Commands as engine
use Rattle.mg_face.specs.Answer.{Answer, document_answer, passed, revision_in}
use Rattle.mg_face.specs.Edited.{edited}
use Rattle.mg_face.specs.Entries.{completed}
use Rattle.mg_face.specs.Way as Shown
use Rattle.mg_face.specs.Way.{Way}

-- An answer of the database `db` to a request with these fields: as it is; one that shows a document has its revision as `ETag`, and is 304 for
-- a client that has it; one to a bulk of one edit is that to the edit; one to a bulk has the entries of the documents that were refused before.
abbrev pub shown : List ℕ → List Header → Way → engine.Answer → Answer
shown db fields Shown.plain a = passed a
shown db fields Shown.document a = if a.status == 200 then document_answer fields (revision_in a.body) (passed a) else passed a
shown db fields (Shown.edit change entry) a = edited db change entry a
shown db fields (Shown.bulk refusals) a = completed refusals a
