-- The values that borrowed parse trees of JSON texts (RFC 8259) stand for. This project also requires that each number is an i64.
use Rattle.std.specs.Prelude.{◌≡◌, ℕ, ℤ, List, Option, Some, option_and_then}
use Rattle.json.specs.Json as json
use Rattle.serde_json.specs.Data as parsed
use Rattle.serde_json.specs.Find.{as_i64}
use Rattle.serde_json.specs.Read.{number_of, of_json, of_items, of_members}
use Rattle.mg_value.specs.Value.{Value, Items, Members}
use Rattle.mg_value.specs.Text.{whole_of, whole_items, whole_members}

-- the number of a numeral; None where it is not an i64
abbrev pub whole_number_of : List ℕ → Option ℤ
whole_number_of s = option_and_then as_i64 (number_of s)

-- the tree stands for parsed data whose value is v
abbrev pub IsTreeOf : json.Json → Value → Type 0
IsTreeOf j v = (d : parsed.Data) × (of_json j ≡ Some d) × (whole_of d ≡ Some v)

-- the items of an array in a tree stand for the items vs
abbrev pub AreItemTreesOf : json.Items → Items → Type 0
AreItemTreesOf js vs = (ds : parsed.Items) × (of_items js ≡ Some ds) × (whole_items ds ≡ Some vs)

-- the members of an object in a tree stand for the members ms; of members with one name the last counts
abbrev pub AreMemberTreesOf : json.Members → Members → Type 0
AreMemberTreesOf js ms = (ds : parsed.Members) × (of_members js parsed.no_members ≡ Some ds) × (whole_members ds ≡ Some ms)
