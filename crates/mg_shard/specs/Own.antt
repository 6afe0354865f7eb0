-- If a document is served with an `_id`, this `_id` is the document's own id. Therefore the list of all documents, in the order of their
-- ids, serves as an index of the one column `_id`.
use Rattle.std.specs.Prelude.{◌≡◌, ⊤, ℕ, Bool, true, false, List, [], ◌∷◌, Option, Some, None, codes}
use Rattle.std.specs.Coded.{Coded-set, coded_option, Unit-prop}
use Rattle.mg_value.specs.Value.{Value, member_of, text}
use Rattle.mg_value.specs.Code.{value_code}
use Rattle.mg_index.specs.Definition.{Steps}
use Rattle.mg_path.specs.Part.{part_of}
use Rattle.mg_shard.specs.declared.served.Served.{Served}
use Rattle.mg_shard.specs.declared.served.Served.TheVariants.{Deleted, WithId, WithoutId}

-- the columns of the list of all documents: `_id` alone
abbrev pub id_columns : List Steps
id_columns = (codes "_id" ∷ []) ∷ []

-- if a form has an `_id`, the `_id` is this id
abbrev pub HasOwnId : List ℕ → Value → Type 0
HasOwnId id form = (part : Value) → part_of (codes "_id" ∷ []) form ≡ Some part → part ≡ text id

-- ---- of the code's documents

-- the form in which a document is served; `None` if it is deleted
abbrev pub form_in : Served → Option Value
form_in Deleted = None
form_in (WithId form) = Some form
form_in (WithoutId form) = Some form

-- whether a document is served with an `_id`
abbrev pub has_own_id : Served → Bool
has_own_id Deleted = false
has_own_id (WithId form) = true
has_own_id (WithoutId form) = false

-- the variant of `Served` is the right one for its form: `WithId` only if the form has an `_id` that is this id; `WithoutId` only
-- if it has no `_id`
abbrev pub IsServedOwn : List ℕ → Served → Type 0
IsServedOwn id Deleted = ⊤
IsServedOwn id (WithId form) = member_of (codes "_id") form ≡ Some (text id)
IsServedOwn id (WithoutId form) = member_of (codes "_id") form ≡ None

-- all proofs of `IsServedOwn` are equal
pub IsServedOwn-prop : (id : List ℕ) (served : Served) → IsProp (IsServedOwn id served)
IsServedOwn-prop id Deleted = Unit-prop
IsServedOwn-prop id (WithId form) = Coded-set (coded_option value_code) (member_of (codes "_id") form) (Some (text id))
IsServedOwn-prop id (WithoutId form) = Coded-set (coded_option value_code) (member_of (codes "_id") form) None
