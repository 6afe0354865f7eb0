-- Members of a body that have the wrong shape. A member that is absent has it only where it is required.
use Rattle.std.specs.Prelude.{pos, Bool, true, false, not, nat_le, codes, Option, Some, None, if◌then◌else◌}
use Rattle.mg_value.specs.Value.{Value, null, flag, whole, text, list, object, member_of}
use Rattle.mg_face.specs.declared.fault.Fault.{Fault}
use Rattle.mg_face.specs.declared.fault.Fault.TheVariants as Of

-- an object, which is required
abbrev pub is_object : Option Value → Bool
is_object (Some (object ms)) = true
is_object v = false

-- an array, which is required
abbrev pub is_list : Option Value → Bool
is_list (Some (list vs)) = true
is_list v = false

-- a whole number from 0 to 2,147,483,647
abbrev pub is_count : Option Value → Bool
is_count None = true
is_count (Some (whole (pos n))) = nat_le n 2147483647
is_count (Some v) = false

-- a text or null
abbrev pub is_bookmark : Option Value → Bool
is_bookmark None = true
is_bookmark (Some null) = true
is_bookmark (Some (text s)) = true
is_bookmark (Some v) = false

-- true or false
abbrev pub is_flag : Option Value → Bool
is_flag None = true
is_flag (Some (flag b)) = true
is_flag (Some v) = false

-- the first such member of a query
abbrev pub query_fault : Value → Option Fault
query_fault v =
    if not (is_object (member_of (codes "selector") v)) then Some Of.Selector
    else (if not (is_count (member_of (codes "limit") v)) then Some Of.Limit
    else (if not (is_count (member_of (codes "skip") v)) then Some Of.Skip
    else (if not (is_bookmark (member_of (codes "bookmark") v)) then Some Of.Bookmark
    else (if not (is_flag (member_of (codes "conflicts") v)) then Some Of.Conflicts else None))))

-- the first such member of a bulk
abbrev pub bulk_fault : Value → Option Fault
bulk_fault v =
    if not (is_list (member_of (codes "docs") v)) then Some Of.Documents
    else (if not (is_flag (member_of (codes "new_edits") v)) then Some Of.NewEdits else None)
