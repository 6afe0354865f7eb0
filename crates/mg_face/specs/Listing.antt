-- What `_all_docs` is asked, after the CouchDB 3.x API reference: the options that a query and a body give, and the rows that they ask for.
use Rattle.std.specs.Prelude.{ℕ, pos, Bool, true, false, not, ◌||◌, nat_le, List, [], map, codes, Option, Some, None, is_some, unwrap_or, if◌then◌else◌}
use Rattle.std.specs.List.{list_all}
use Rattle.std.specs.Option.{option_or}
use Rattle.mg_value.specs.Value.{Value, null, flag, whole, text, list, object, item_list, no_members, member_of, with_member}
use Rattle.mg_engine.specs.Listing.{Listing}
use Rattle.mg_engine.specs.Questions.{Question, keys, range}
use Rattle.mg_face.specs.declared.fault.Fault.{Fault}
use Rattle.mg_face.specs.declared.fault.Fault.TheVariants as Of
use Rattle.mg_face.specs.Edit.{value_in_query}
use Rattle.mg_face.specs.Fault.{is_count, is_flag}
use Rattle.mg_face.specs.Json.{json_of}

-- ---- the options

-- a value of a query is a JSON text; any other text counts as null, which no option may be
abbrev pub option_value : List ℕ → Value
option_value s = unwrap_or (json_of s) null

-- the options with this one, if a query gives it a value
abbrev pub with_value : List ℕ → Option (List ℕ) → Value → Value
with_value name None v = v
with_value name (Some s) v = with_member name (option_value s) v

-- the options with the one of this name, if a query has it in a spelling
abbrev pub with_spelled : List ℕ → List ℕ → List ℕ → Value → Value
with_spelled query spelling name v = with_value name (value_in_query spelling query) v

-- the options with the one of this name, if a query has it
abbrev pub with_option : List ℕ → List ℕ → Value → Value
with_option query name v = with_spelled query name name v

-- the options of a body with those of a query, which replace them, in whatever spelling
abbrev pub with_options : List ℕ → Value → Value
with_options query v =
    with_option query (codes "skip")
    (with_option query (codes "limit")
    (with_option query (codes "inclusive_end")
    (with_option query (codes "include_docs")
    (with_option query (codes "descending")
    (with_option query (codes "conflicts")
    (with_spelled query (codes "end_key") (codes "endkey")
    (with_option query (codes "endkey")
    (with_spelled query (codes "start_key") (codes "startkey")
    (with_option query (codes "startkey")
    (with_option query (codes "keys")
    (with_option query (codes "key") v)))))))))))

-- the option that says with which id the range begins
abbrev pub start_in : Value → Option Value
start_in v = option_or (member_of (codes "startkey") v) (member_of (codes "start_key") v)

-- the option that says with which id it ends
abbrev pub end_in : Value → Option Value
end_in v = option_or (member_of (codes "endkey") v) (member_of (codes "end_key") v)

-- ---- their shapes

-- a text
abbrev pub is_text : Value → Bool
is_text (text s) = true
is_text v = false

-- a text, if there is one
abbrev pub is_id : Option Value → Bool
is_id None = true
is_id (Some v) = is_text v

-- an array of texts, if there is one
abbrev pub are_ids : Option Value → Bool
are_ids None = true
are_ids (Some (list vs)) = list_all is_text (item_list vs)
are_ids (Some v) = false

-- options that are not taken beside `keys`
abbrev pub has_range : Value → Bool
has_range v =
    is_some (member_of (codes "key") v) || (is_some (start_in v) || (is_some (end_in v) || (is_some (member_of (codes "limit") v)
    || (is_some (member_of (codes "skip") v) || (is_some (member_of (codes "descending") v) || is_some (member_of (codes "conflicts") v))))))

-- such an option beside `keys`
abbrev pub keys_fault : Value → Option Fault
keys_fault v = if is_some (member_of (codes "keys") v) then (if has_range v then Some Of.KeysAlone else None) else None

-- the first option that is no flag where it has to be one
abbrev pub flags_fault : Value → Option Fault
flags_fault v =
    if not (is_flag (member_of (codes "conflicts") v)) then Some Of.Conflicts
    else (if not (is_flag (member_of (codes "descending") v)) then Some Of.Descending
    else (if not (is_flag (member_of (codes "include_docs") v)) then Some Of.IncludeDocuments
    else (if not (is_flag (member_of (codes "inclusive_end") v)) then Some Of.InclusiveEnd else keys_fault v)))

-- the first option of the wrong shape
abbrev pub listing_fault : Value → Option Fault
listing_fault v =
    if not (are_ids (member_of (codes "keys") v)) then Some Of.Keys
    else (if not (is_id (member_of (codes "key") v)) then Some Of.Key
    else (if not (is_id (start_in v)) then Some Of.StartKey
    else (if not (is_id (end_in v)) then Some Of.EndKey
    else (if not (is_count (member_of (codes "limit") v)) then Some Of.Limit
    else (if not (is_count (member_of (codes "skip") v)) then Some Of.Skip else flags_fault v)))))

-- ---- what they ask for

-- the text that an option is
abbrev pub id_given : Option Value → Option (List ℕ)
id_given (Some (text s)) = Some s
id_given v = None

-- the flag that an option is, or this one
abbrev pub flag_given : Bool → Option Value → Bool
flag_given otherwise (Some (flag b)) = b
flag_given otherwise v = otherwise

-- the number that an option is, if it is one from 0 to 4,294,967,295, or this one
abbrev pub count_given : ℕ → Option Value → ℕ
count_given otherwise (Some (whole (pos n))) = if nat_le n 4294967295 then n else otherwise
count_given otherwise v = otherwise

-- the text that an item is; the empty text for any other value
abbrev pub text_given : Value → List ℕ
text_given (text s) = s
text_given v = []

-- the range that these options ask for; `key` is a range of one id
abbrev pub range_of : Value → Listing
range_of v = record {
  start = option_or (id_given (member_of (codes "key") v)) (id_given (start_in v));
  last = option_or (id_given (member_of (codes "key") v)) (id_given (end_in v));
  with_last = flag_given true (member_of (codes "inclusive_end") v);
  descending = flag_given false (member_of (codes "descending") v);
  limit = count_given 2147483647 (member_of (codes "limit") v);
  skip = count_given 0 (member_of (codes "skip") v);
  documents = flag_given false (member_of (codes "include_docs") v);
  conflicts = flag_given false (member_of (codes "conflicts") v);
}

-- the rows of these ids, or of the range that the options ask for
abbrev pub rows_asked : Option Value → Value → Question
rows_asked (Some (list ids)) v = keys (map text_given (item_list ids)) (flag_given false (member_of (codes "include_docs") v))
rows_asked ids v = range (range_of v)

-- the rows that options ask for
abbrev pub listing_asked : Value → Question
listing_asked v = rows_asked (member_of (codes "keys") v) v
