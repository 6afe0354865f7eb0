-- How many ids are asked for, after CouchDB's `_uuids`.
use Rattle.std.specs.Prelude.{ℕ, Bool, ◌&&◌, ◌==◌, nat_le, nat_lt, List, length, Option, Some, None, Result, Ok, Err, if◌then◌else◌}
use Rattle.std.specs.Char.{is_ascii_digit}
use Rattle.std.specs.List.{list_all}
use Rattle.std.specs.Str.Parse.{digits_value}
use Rattle.mg_face.specs.declared.count.CountFault.{CountFault}
use Rattle.mg_face.specs.declared.count.CountFault.TheVariants.{NotPositive, TooLarge}

-- a text is a whole number: decimal digits
abbrev pub is_number : List ℕ → Bool
is_number s = nat_lt 0 (length s) && list_all is_ascii_digit s

-- a number of ids: from 1 to 1,000
abbrev pub count_of : ℕ → Result ℕ CountFault
count_of n = if n == 0 then Err NotPositive else (if nat_le n 1000 then Ok n else Err TooLarge)

-- the number of ids that a parameter asks for; without one, 1
abbrev pub count_given : Option (List ℕ) → Result ℕ CountFault
count_given None = Ok 1
count_given (Some s) = if is_number s then count_of (digits_value 10 s) else Err NotPositive
