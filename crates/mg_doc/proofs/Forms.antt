-- The form of `_rev` and `_revisions`.
use Rattle.std.proofs.Common.{◌≡◌, ℕ, List, ◌∷◌, Bool, true, false, ◌&&◌, cond, length, nat_lt, nat_le, Option, Some, None, is_some, option_map, option_and_then, refl, ap, ◌∙◌, suc}
use Rattle.std.specs.List.{list_all}
use Rattle.std.specs.Option.{option_map_or}
use Rattle.mg_value.specs.Value.{Items, no_items, item, text, null, flag, whole, list, object, item_list}
use Rattle.mg_revtree.specs.Revision.{is_revision_id, run_of, run_from}
use Rattle.mg_doc.specs.Document.{path_ids}
use Rattle.mg_doc.specs.WellFormed.{are_ids}

-- an option that is not `None` has an item
pub there_unless_none : {A : Type 0} (o : Option A) → (o ≡ None → ⊥) → true ≡ is_some o
there_unless_none None some = absurd (some refl)
there_unless_none (Some x) some = refl

-- a member that is there is well formed, or the result is `None`
pub there_or_none : {A : Type 0} (o : Option A) → cond (is_some o) (Some true) None ≡ option_map is_some (option_map Some o)
there_or_none None = refl
there_or_none (Some x) = refl

-- ---- the ids of a path

not_both : (b : Bool) → false ≡ (b && false)
not_both true = refl
not_both false = refl

one_more : (s : List ℕ) (o : Option (List (List ℕ)))
    → option_map_or (list_all is_revision_id) (option_map (λ ids. s ∷ ids) o) false ≡ (is_revision_id s && option_map_or (list_all is_revision_id) o false)
one_more s None = not_both (is_revision_id s)
one_more s (Some ids) = refl

ids_all : (vs : Items) → option_map_or (list_all is_revision_id) (path_ids vs) false ≡ are_ids vs
ids_all no_items = refl
ids_all (item (text s) vs) = one_more s (path_ids vs) ∙ ap (λ b. is_revision_id s && b) (ids_all vs)
ids_all (item null vs) = refl
ids_all (item (flag b) vs) = refl
ids_all (item (whole z) vs) = refl
ids_all (item (list ws) vs) = refl
ids_all (item (object ms) vs) = refl

-- the length of what was read, or n if nothing was read
abbrev length_or : ℕ → Option (List (List ℕ)) → ℕ
length_or n None = n
length_or n (Some ids) = length ids

length_later : (n : ℕ) (s : List ℕ) (o : Option (List (List ℕ))) → length_or n o ≡ n → length_or (suc n) (option_map (λ ids. s ∷ ids) o) ≡ suc n
length_later n s None e = refl
length_later n s (Some ids) e = ap suc e

ids_length : (vs : Items) → length_or (length (item_list vs)) (path_ids vs) ≡ length (item_list vs)
ids_length no_items = refl
ids_length (item (text s) vs) = length_later (length (item_list vs)) s (path_ids vs) (ids_length vs)
ids_length (item null vs) = refl
ids_length (item (flag b) vs) = refl
ids_length (item (whole z) vs) = refl
ids_length (item (list ws) vs) = refl
ids_length (item (object ms) vs) = refl

none_of_three : (a b : Bool) → false ≡ (a && (b && false))
none_of_three true b = not_both b
none_of_three false b = refl

there_if : {A : Type 0} (b : Bool) (x : A) → is_some (cond b (Some x) None) ≡ b
there_if true x = refl
there_if false x = refl

run_there : (n m : ℕ) (b : Bool) (o : Option (List (List ℕ))) → length_or m o ≡ m → option_map_or (list_all is_revision_id) o false ≡ b
    → is_some (option_and_then (run_of n) o) ≡ (nat_lt 0 m && (nat_le m n && b))
run_there n m b None e f = none_of_three (nat_lt 0 m) (nat_le m n) ∙ ap (λ x. nat_lt 0 m && (nat_le m n && x)) f
run_there n m b (Some ids) e f =
    there_if (nat_lt 0 (length ids) && (nat_le (length ids) n && list_all is_revision_id ids)) (run_from n ids)
    ∙ ap (λ k. nat_lt 0 k && (nat_le k n && list_all is_revision_id ids)) e
    ∙ ap (λ x. nat_lt 0 m && (nat_le m n && x)) f

-- the ids give a path if there are 1 to `start` of them, and each is the id of a revision
pub path_of_ids : (n : ℕ) (vs : Items)
    → is_some (option_and_then (run_of n) (path_ids vs)) ≡ (nat_lt 0 (length (item_list vs)) && (nat_le (length (item_list vs)) n && are_ids vs))
path_of_ids n vs = run_there n (length (item_list vs)) (are_ids vs) (path_ids vs) (ids_length vs) (ids_all vs)
