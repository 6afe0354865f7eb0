-- What waits to be sent on a connection.
use Rattle.std.specs.Prelude.{◌≡◌, ℕ, ◌+◌, ◌≤◌, List, [], ◌++◌, length, drop}
use Rattle.std.specs.Cow.{cow_slice_items}
use Rattle.mg_http.specs.declared.sessions.output.Output.{Output}

-- what is left of the last reply, if it was not joined to those before it
abbrev pub left_of_last : Output → List ℕ
left_of_last o = drop o.sent (o.head.items ++ cow_slice_items o.body)

-- all bytes that wait to be sent
abbrev pub left_in : Output → List ℕ
left_in o = o.joined.items ++ left_of_last o

-- another reply may be said
abbrev pub HasRoom : Output → Type 0
HasRoom o = (left_of_last o ≡ []) × (length o.joined.items ≤ 65536)

-- the bytes of memory that it has taken
abbrev pub output_room : Output → ℕ
output_room o = (length o.joined.items + o.joined.spare) + length (cow_slice_items o.body)
