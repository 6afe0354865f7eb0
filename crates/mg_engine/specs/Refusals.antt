-- Refusals: the status and the body of each. Some texts are CouchDB's (such as those of `MixedSort` and `NoUsableIndex`); the others are
-- this project's own.
use Rattle.std.specs.Prelude.{ℕ, List, codes}
use Rattle.mg_value.specs.Value.{object, member, no_members, text}
use Rattle.mg_engine.specs.Bodies.{line_of}
use Rattle.mg_engine.specs.declared.refusal.Refusal.{Refusal}
use Rattle.mg_engine.specs.declared.refusal.Refusal.TheVariants.{InvalidJson, WrongShape, InvalidOperator, BadArg, BadBookmark, MixedSort, NoUsableIndex, BadMember, BadId, BadRev, Missing, Deleted, NoDatabase, MethodNotAllowed, LengthRequired, TooLarge, HeadTooLarge, OutOfMemory, BadHead}

-- the status of a refusal, as in RFC 9110
abbrev pub status_of : Refusal → ℕ
status_of InvalidJson = 400
status_of WrongShape = 400
status_of InvalidOperator = 400
status_of BadArg = 400
status_of BadBookmark = 400
status_of MixedSort = 400
status_of NoUsableIndex = 400
status_of BadMember = 400
status_of BadId = 400
status_of BadRev = 400
status_of Missing = 404
status_of Deleted = 404
status_of NoDatabase = 404
status_of MethodNotAllowed = 405
status_of LengthRequired = 411
status_of TooLarge = 413
status_of HeadTooLarge = 431
status_of OutOfMemory = 503
status_of BadHead = 400

-- the line of `{"error":..,"reason":..}`
abbrev pub refusal_line : List ℕ → List ℕ → List ℕ
refusal_line error reason = line_of (object (member (codes "error") (text error) (member (codes "reason") (text reason) no_members)))

-- the body of a refusal: the line of its `error` and `reason`
abbrev pub refusal_body : Refusal → List ℕ
refusal_body InvalidJson = refusal_line (codes "bad_request") (codes "Invalid JSON.")
refusal_body WrongShape = refusal_line (codes "bad_request") (codes "Wrong shape.")
refusal_body InvalidOperator = refusal_line (codes "invalid_operator") (codes "Unknown operator.")
refusal_body BadArg = refusal_line (codes "bad_arg") (codes "Bad argument for an operator.")
refusal_body BadBookmark = refusal_line (codes "invalid_bookmark") (codes "Invalid bookmark.")
refusal_body MixedSort = refusal_line (codes "unsupported_mixed_sort") (codes "Sorts currently only support a single direction for all fields.")
refusal_body NoUsableIndex = refusal_line (codes "no_usable_index") (codes "No index exists for this sort, try indexing by the sort fields.")
refusal_body BadMember = refusal_line (codes "doc_validation") (codes "Bad special document member.")
refusal_body BadId = refusal_line (codes "doc_validation") (codes "Bad document id.")
refusal_body BadRev = refusal_line (codes "doc_validation") (codes "Invalid rev format.")
refusal_body Missing = refusal_line (codes "not_found") (codes "missing")
refusal_body Deleted = refusal_line (codes "not_found") (codes "deleted")
refusal_body NoDatabase = refusal_line (codes "not_found") (codes "Database does not exist.")
refusal_body MethodNotAllowed = refusal_line (codes "method_not_allowed") (codes "Method not allowed.")
refusal_body LengthRequired = refusal_line (codes "length_required") (codes "Content-Length required.")
refusal_body TooLarge = refusal_line (codes "too_large") (codes "Request too large.")
refusal_body HeadTooLarge = refusal_line (codes "head_too_large") (codes "Request head too large.")
refusal_body OutOfMemory = refusal_line (codes "out_of_memory") (codes "Out of memory.")
refusal_body BadHead = refusal_line (codes "bad_head") (codes "Bad request head.")
