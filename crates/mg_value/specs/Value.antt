-- JSON values by RFC 8259, in the profile of this project: every number is whole, and an object has each name once,
-- its members in the order of their names. Texts and names are lists of UTF-8 bytes, whose order is that of the code points.
-- The types below do not require this of objects and bytes; `IsStored` does.
use Rattle.std.specs.Prelude.{ℕ, suc, max, ℤ, List, [], ◌∷◌, Bool, Option, Some, None}
use Rattle.std.specs.Ordering.{nat_cmp, match_ordering}
use Rattle.std.specs.Cmp.Lexicographic.{slice_cmp}

mutual
  -- a value: null, true or false, a number, a string, an array or an object
  pub data Value : Type 0 where
    null : Value
    flag : Bool → Value
    whole : ℤ → Value
    text : List ℕ → Value
    list : Items → Value
    object : Members → Value

  -- the values of an array, first to last
  pub data Items : Type 0 where
    no_items : Items
    item : Value → Items → Items

  -- the names of an object, each with its value
  pub data Members : Type 0 where
    no_members : Members
    member : List ℕ → Value → Members → Members

-- the members with v at the name k: a member that has this name is replaced, a new name goes to its place in the order
abbrev pub put : List ℕ → Value → Members → Members
put k v no_members = member k v no_members
put k v (member l w ms) = match_ordering (slice_cmp nat_cmp k l) (member k v (member l w ms)) (member l v ms) (member l w (put k v ms))

-- the value at the name k, if there is one
abbrev pub get_member : List ℕ → Members → Option Value
get_member k no_members = None
get_member k (member l v ms) = match_ordering (slice_cmp nat_cmp k l) (get_member k ms) (Some v) (get_member k ms)

-- the members except the one at the name k
abbrev pub without : List ℕ → Members → Members
without k no_members = no_members
without k (member l v ms) = match_ordering (slice_cmp nat_cmp k l) (member l v (without k ms)) ms (member l v (without k ms))

-- an object's value at the name k; no other value has members
abbrev pub member_of : List ℕ → Value → Option Value
member_of k (object ms) = get_member k ms
member_of k v = None

-- an object with v at the name k; any other value stays as it is
abbrev pub with_member : List ℕ → Value → Value → Value
with_member k v (object ms) = object (put k v ms)
with_member k v w = w

-- an object without its member at the name k; any other value stays as it is
abbrev pub without_member : List ℕ → Value → Value
without_member k (object ms) = object (without k ms)
without_member k v = v

-- the items as a list
abbrev pub item_list : Items → List Value
item_list no_items = []
item_list (item v vs) = v ∷ item_list vs

-- the names and values as a list
abbrev pub member_list : Members → List (List ℕ × Value)
member_list no_members = []
member_list (member k v ms) = (k, v) ∷ member_list ms

-- how deep arrays and objects nest: 0 for a value that is neither
abbrev mutual
  pub depth : Value → ℕ
  depth null = 0
  depth (flag b) = 0
  depth (whole z) = 0
  depth (text s) = 0
  depth (list vs) = suc (items_depth vs)
  depth (object ms) = suc (members_depth ms)

  -- the depth of the deepest item; 0 without items
  pub items_depth : Items → ℕ
  items_depth no_items = 0
  items_depth (item v vs) = max (depth v) (items_depth vs)

  -- the depth of the deepest member; 0 without members
  pub members_depth : Members → ℕ
  members_depth no_members = 0
  members_depth (member k v ms) = max (depth v) (members_depth ms)
