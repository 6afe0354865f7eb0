-- For private clauses: what the steps of an edit give. One step finds the base that the edit extends, another looks up the path of a
-- replica.
use Rattle.std.specs.Prelude.{◌≡◌, true, false, Bool, List, Option, Some, None, option_map, Result, Ok, Err, if◌then◌else◌}
use Rattle.std.specs.Result.{result_err}
use Rattle.mg_value.specs.Value.{Value}
use Rattle.mg_revtree.specs.Revision.{Revision}
use Rattle.mg_revtree.specs.History.{Paths, fits, is_known_whole, newest_of}
use Rattle.mg_revtree.specs.Changes.{next_position, refusal_of}
use Rattle.mg_doc.specs.Applied.{refusal_in}
use Rattle.mg_doc.specs.Acceptance.{ReportsRefusal}
use Rattle.mg_doc.specs.Digest.{digest_of}
use Rattle.mg_doc.specs.Document.{Edit}
use Rattle.mg_doc.specs.Edit.{Accepted, base_of, must_name, path_over, refused_by, unless}
use Rattle.mg_doc.specs.declared.edit.apply.Look.{Look}
use Rattle.mg_doc.specs.declared.edit.apply.Look.TheVariants.{Known, Ready}
use Rattle.mg_doc.specs.declared.error.EditError.{EditError}
use Rattle.mg_doc.specs.declared.error.EditRefusal.{EditRefusal}
use Rattle.mg_doc.specs.declared.error.EditRefusal.TheVariants.{BadHistory, Conflict}

-- the base that is extended, `Ok None` if there is none, or why the edit is refused
abbrev pub base_found : Paths → Option Revision → Result (Option Revision) EditRefusal
base_found h named = if must_name h named then Err Conflict else Ok (base_of h named)

-- the path of a new revision over a base, or of a first revision without a base; or why the edit is refused
abbrev pub extended_over : Paths → Bool → Value → Option Revision → Result Accepted EditRefusal
extended_over h deleted body base =
    unless (option_map refused_by (refusal_of h base (digest_of deleted base body))) (path_over base (digest_of deleted base body))

-- the path of a new revision over the base that is found, or why the edit is refused
abbrev pub extended_found : Paths → Bool → Value → Result (Option Revision) EditRefusal → Result Accepted EditRefusal
extended_found h deleted body (Ok base) = extended_over h deleted body base
extended_found h deleted body (Err refused) = Err refused

-- the path that a new edit adds, or why it is refused, by the steps of the code
abbrev pub extended_by : Paths → Bool → Value → Option Revision → Result Accepted EditRefusal
extended_by h deleted body named = extended_found h deleted body (base_found h named)

-- the refusal that is found before a revision is made, if there is one: that of finding the base, or that of the new position
abbrev pub unplaced : Paths → Result (Option Revision) EditRefusal → Option EditRefusal
unplaced h (Ok base) = option_map refused_by (result_err (next_position h base))
unplaced h (Err refused) = Some refused

-- a copied base is the base that is found; an error reports the refusal, or that memory ran out
abbrev pub IsCopyOf : Result (Option Revision) EditRefusal → Result (Option Revision) EditError → Type 0
IsCopyOf said (Ok base) = said ≡ Ok base
IsCopyOf said (Err x) = ReportsRefusal said (refusal_in x)

-- a reported refusal of a path is `BadHistory`, and the path does not fit; without a refusal the path fits
abbrev pub MisfitReport : Paths → List Revision → Option EditRefusal → Type 0
MisfitReport h run (Some refused) = (refused ≡ BadHistory) × (fits h run ≡ false)
MisfitReport h run None = fits h run ≡ true

-- the look-up of a path is right: the path is known whole; or it is not, but fits; or it does not fit; or memory ran out, and it fits
abbrev pub LooksFor : Paths → List Revision → Result (Option Revision) EditError → Type 0
LooksFor h run (Ok (Some r)) = (newest_of run ≡ Some r) × (is_known_whole h run ≡ true)
LooksFor h run (Ok None) = (fits h run ≡ true) × (is_known_whole h run ≡ false)
LooksFor h run (Err x) = MisfitReport h run (refusal_in x)

-- what a look at an edit returns: the newest revision of a path that is known whole, if there is one; else the edit is ready
abbrev pub look_of : Edit → Option Revision → Look
look_of e (Some r) = Known r
look_of e None = Ready e
