-- The ids that the face gives to documents without one: 32 hexadecimal digits, counted from a number that is drawn for each request.
use Rattle.std.specs.Prelude.{ℕ, zero, suc, ◌+◌, ◌%◌, ◌^◌, Bool, false, ◌||◌, List, [], ◌∷◌, codes, Option, Some, None, is_none, is_some, option_map, if◌then◌else◌}
use Rattle.std.specs.Int.{to_be_bytes, w128}
use Rattle.hex.specs.Hex.{encode_lower}
use Rattle.mg_value.specs.Value.{Value, text, list, object, Items, no_items, item, item_list, get_member, member_of, with_member, without_member}
use Rattle.mg_value.specs.View.{items_of}

-- the number after n, modulo 2^128
abbrev pub number_after : ℕ → ℕ
number_after n = (n + 1) % 2 ^ 128

-- a number as an id: its 32 lowercase hexadecimal digits
abbrev pub id_text : ℕ → List ℕ
id_text n = encode_lower (to_be_bytes w128 n)

-- so many ids, the first of which has this number
abbrev pub id_list : ℕ → ℕ → List (List ℕ)
id_list n zero = []
id_list n (suc count) = id_text n ∷ id_list (number_after n) count

-- a document with the id of this number, unless it has one; a value that is no object stays as it is
abbrev pub with_id : ℕ → Value → Value
with_id n v = if is_some (member_of (codes "_id") v) then v else with_member (codes "_id") (text (id_text n)) v

-- the documents, each with an id: one that has none gets the number of its place, counted from the first one's
abbrev pub with_ids : ℕ → List Value → List Value
with_ids n [] = []
with_ids n (v ∷ vs) = with_id n v ∷ with_ids (number_after n) vs

-- a document has no id
abbrev pub lacks_id : Value → Bool
lacks_id (object ms) = is_none (get_member (codes "_id") ms)
lacks_id v = false

-- one of these documents has no id
abbrev pub lack_ids : Items → Bool
lack_ids no_items = false
lack_ids (item v vs) = lacks_id v || lack_ids vs

-- the same of the `docs` of a bulk, if it is an array
abbrev pub some_lacks_id : Option Value → Bool
some_lacks_id (Some (list vs)) = lack_ids vs
some_lacks_id v = false

-- a document of the bulk has no id
abbrev pub needs_ids : Value → Bool
needs_ids v = some_lacks_id (member_of (codes "docs") v)

-- the documents of a bulk, each with an id
abbrev pub documents_with_ids : ℕ → Value → Value
documents_with_ids n (list vs) = list (items_of (with_ids n (item_list vs)))
documents_with_ids n v = v

-- a bulk with these documents
abbrev pub with_documents : Option Value → Value → Value
with_documents (Some v) bulk = with_member (codes "docs") v bulk
with_documents None bulk = bulk

-- a bulk with ids for all its documents
abbrev pub given_ids : ℕ → Value → Value
given_ids n v =
    with_documents (option_map (documents_with_ids n) (member_of (codes "docs") v)) (without_member (codes "docs") v)

-- a bulk none of whose documents lacks an id: as it is, if none does
abbrev pub bulk_with_ids : ℕ → Value → Value
bulk_with_ids n v = if needs_ids v then given_ids n v else v
