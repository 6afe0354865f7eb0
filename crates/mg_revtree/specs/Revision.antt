-- Revisions of a document and their text `N-id`, after the replication and conflict model of CouchDB.
use Rattle.std.specs.Prelude.{ℕ, ◌-◌, List, [], ◌∷◌, ◌++◌, Bool, ◌&&◌, ◌==◌, Option, Some, None, option_map, length, nat_lt, nat_le, codes, decimal, if◌then◌else◌}
use Rattle.std.specs.Char.{is_ascii_digit}
use Rattle.std.specs.Cmp.Lexicographic.{slice_cmp}
use Rattle.std.specs.List.{list_all, list_any, before_first, after_first}
use Rattle.std.specs.Ordering.{on, then_cmp, nat_cmp, is_eq}
use Rattle.std.specs.Str.{bytes_eq}
use Rattle.std.specs.Str.Parse.{digits_value}
use Rattle.std.specs.declared.cmp.Ordering.{Ordering}

-- a revision: its position, counted from 1, and its id
abbrev pub Revision : Type 0
Revision = ℕ × List ℕ

-- the order of revisions: by the position, then by the bytes of the id
abbrev pub revision_order : Revision → Revision → Ordering
revision_order = then_cmp (on (λ r. r.0) nat_cmp) (on (λ r. r.1) (slice_cmp nat_cmp))

-- whether two revisions are equal
abbrev pub same_revision : Revision → Revision → Bool
same_revision a b = is_eq (revision_order a b)

-- whether a byte is a character of an id: printable ASCII other than the space
abbrev pub is_id_byte : ℕ → Bool
is_id_byte b = nat_le 33 b && nat_le b 126

-- whether a text is the id of a revision: one or more such characters
abbrev pub is_revision_id : List ℕ → Bool
is_revision_id s = nat_lt 0 (length s) && list_all is_id_byte s

-- the position that a text gives: from 1 to 4,294,967,295 in decimal digits with no leading zero; `None` for any other text
abbrev pub position_of : List ℕ → Option ℕ
position_of s =
    if list_all is_ascii_digit s && (nat_lt 0 (digits_value 10 s) && (nat_le (digits_value 10 s) 4294967295 && bytes_eq (decimal (digits_value 10 s)) s))
    then Some (digits_value 10 s) else None

-- the revision that a text names: the position before its first hyphen, and the id after it; `None` if either is missing or invalid
abbrev pub revision_of : List ℕ → Option Revision
revision_of s =
    if list_any (λ b. b == 45) s && is_revision_id (after_first (λ b. b == 45) s)
    then option_map (λ n. (n, after_first (λ b. b == 45) s)) (position_of (before_first (λ b. b == 45) s))
    else None

-- the text of a revision
abbrev pub revision_text : Revision → List ℕ
revision_text r = decimal r.0 ++ codes "-" ++ r.1

-- the run of these ids, newest first; the newest revision is at this position, and each other one is a position below the one before it
abbrev pub run_from : ℕ → List (List ℕ) → List Revision
run_from n [] = []
run_from n (id ∷ ids) = (n, id) ∷ run_from (n - 1) ids

-- the run that a replica gives by its start n and its ids: at least one id and at most n, each the id of a revision; `None` for any other
-- ids
abbrev pub run_of : ℕ → List (List ℕ) → Option (List Revision)
run_of n ids =
    if nat_lt 0 (length ids) && (nat_le (length ids) n && list_all is_revision_id ids)
    then Some (run_from n ids) else None
