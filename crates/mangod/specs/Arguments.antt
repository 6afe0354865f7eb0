-- The arguments of the program, `DB SHARDS WORKERS SESSIONS ADDR`: a database name as in CouchDB but without slashes, three numbers, and
-- the address at which the program listens.
use Rattle.std.specs.Prelude.{ℕ, List, [], ◌∷◌, Bool, false, Option, Some, None, ◌&&◌, ◌||◌, if◌then◌else◌, nat_eq, nat_le, bytes_eq, codes}
use Rattle.std.specs.Char.{is_ascii_lowercase, is_ascii_digit}
use Rattle.std.specs.List.{list_all, list_any}
use Rattle.std.specs.Str.Parse.{digits_value}

-- whether a byte may follow the first byte of a database name: a lower case letter, a digit or one of `_$()+-`
abbrev pub is_name_byte : ℕ → Bool
is_name_byte byte = is_ascii_lowercase byte || is_ascii_digit byte || list_any (nat_eq byte) (codes "_$()+-")

-- whether an argument is a database name: a lower case letter, then lower case letters, digits and `_$()+-`
abbrev pub is_database_name : List ℕ → Bool
is_database_name [] = false
is_database_name (first ∷ rest) = is_ascii_lowercase first && list_all is_name_byte rest

-- the number that decimal digits write; `None` unless it is from 1 to `most` and all bytes are digits
abbrev pub number_of : List ℕ → ℕ → Option ℕ
number_of arg most =
    if list_all is_ascii_digit arg && (nat_le 1 (digits_value 10 arg) && nat_le (digits_value 10 arg) most)
    then Some (digits_value 10 arg) else None

-- what the arguments ask for
pub record Settings : Type 0 where
  pub db : List ℕ
  pub shards : ℕ
  pub workers : ℕ
  pub sessions : ℕ
  pub addr : List ℕ

-- whether the address is `-`, which means standard input and output instead of TCP
abbrev pub is_standard : List ℕ → Bool
is_standard addr = bytes_eq addr (codes "-")

-- the settings of a name, an address and three numbers; `None` if the name is not a database name or a number is `None`. The address may be
-- any text
abbrev pub settings_with : List ℕ → List ℕ → Option ℕ → Option ℕ → Option ℕ → Option Settings
settings_with db addr (Some shards) (Some workers) (Some sessions) =
    if is_database_name db
    then Some (record { db = db; shards = shards; workers = workers; sessions = sessions; addr = addr }) else None
settings_with db addr shards workers sessions = None

-- the settings of five arguments: 1 to 64 shards, 1 to 32 workers and 1 to 16 sessions; `None` if one is wrong, or there are not five
abbrev pub settings_of : List (List ℕ) → Option Settings
settings_of (db ∷ shards ∷ workers ∷ sessions ∷ addr ∷ []) =
    settings_with db addr (number_of shards 64) (number_of workers 32) (number_of sessions 16)
settings_of args = None

-- the name of the database; empty if the arguments are wrong
abbrev pub name_in : Option Settings → List ℕ
name_in None = []
name_in (Some s) = s.db

-- the number of shards; 1 if the arguments are wrong
abbrev pub shards_in : Option Settings → ℕ
shards_in None = 1
shards_in (Some s) = s.shards

-- the number of sessions; 1 if the arguments are wrong
abbrev pub sessions_in : Option Settings → ℕ
sessions_in None = 1
sessions_in (Some s) = s.sessions
