-- Which entity tags a client has.
use Rattle.std.specs.Prelude.{ℕ, Bool, ◌==◌, ◌&&◌, ◌||◌, List, length, take, drop, nat_lt, bytes_eq, codes}
use Rattle.std.specs.List.{list_any, slice_split}

-- a tag of `If-None-Match` is this one; weak tags are compared as others (RFC 9110, section 8.8.3.2)
abbrev pub is_same_tag : List ℕ → List ℕ → Bool
is_same_tag tag item =
    bytes_eq item tag || (nat_lt 2 (length item) && (bytes_eq (take 2 item) (codes "W/") && bytes_eq (drop 2 item) tag))

-- a comma, or a space
abbrev pub is_blank : ℕ → Bool
is_blank b = (b == 44) || (b == 32)

-- one of the tags of `If-None-Match` is this one, as CouchDB splits them
abbrev pub is_in_tags : List ℕ → List ℕ → Bool
is_in_tags tag value = list_any (is_same_tag tag) (slice_split is_blank value)
