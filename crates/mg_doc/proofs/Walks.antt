-- The members and the items of a packed document, one after the other.
use Rattle.std.proofs.Common.{◌≡◌, ℕ, ◌+◌, ◌<◌, List, [], ◌∷◌, ◌++◌, ◌&&◌, length, Option, Some, None, option_map, refl, sym, ap, ◌∙◌, suc, append_assoc, arith}
use Rattle.mg_value.specs.Value.{text, Items, item, item_list, Members, member_list}
use Rattle.mg_value.proofs.Items.{items_past}
use Rattle.mg_packed.specs.Read.{nth_item, nth_name}
use Rattle.mg_packed.specs.Walk.{members_past}
use Rattle.mg_packed.proofs.Walks.{item_next, member_next}
use Rattle.mg_doc.specs.Document.{has_known_names, path_ids}
use Rattle.mg_doc.specs.WellFormed.{are_ids, is_rev_id_value, is_known_name}

one_later : (i : ℕ) → suc i ≡ i + 1
one_later i = omega arith

-- ---- names

pub known_next : (ms : Members) (i : ℕ) → i < length (member_list ms) → has_known_names (members_past i ms) ≡ (is_known_name (nth_name ms i) && has_known_names (members_past (i + 1) ms))
known_next ms i h = ap has_known_names (member_next ms i h) ∙ ap (λ n. is_known_name (nth_name ms i) && has_known_names (members_past n ms)) (one_later i)

-- ---- the ids of a path

pub ids_next : (vs : Items) (i : ℕ) → i < length (item_list vs) → are_ids (items_past i vs) ≡ (is_rev_id_value (nth_item vs i) && are_ids (items_past (i + 1) vs))
ids_next vs i h = ap are_ids (item_next vs i h) ∙ ap (λ n. is_rev_id_value (nth_item vs i) && are_ids (items_past n vs)) (one_later i)

-- a text is one more id
more_of : (texts : List (List ℕ)) (s : List ℕ) (o : Option (List (List ℕ)))
    → option_map (λ more. texts ++ more) (option_map (λ ids. s ∷ ids) o) ≡ option_map (λ more. (texts ++ (s ∷ [])) ++ more) o
more_of texts s None = refl
more_of texts s (Some ids) = ap Some (sym (append_assoc texts (s ∷ []) ids))

pub path_ends : (vs : Items) (i : ℕ) (texts : List (List ℕ)) → i < length (item_list vs) → ((rest : Items) → path_ids (item (nth_item vs i) rest) ≡ None)
    → option_map (λ more. texts ++ more) (path_ids (items_past i vs)) ≡ None
path_ends vs i texts h none = ap (λ o. option_map (λ more. texts ++ more) o) (ap path_ids (item_next vs i h) ∙ none (items_past (suc i) vs))

pub path_next : (vs : Items) (i : ℕ) (texts : List (List ℕ)) (s : List ℕ) → i < length (item_list vs) → nth_item vs i ≡ text s
    → option_map (λ more. texts ++ more) (path_ids (items_past i vs)) ≡ option_map (λ more. (texts ++ (s ∷ [])) ++ more) (path_ids (items_past (i + 1) vs))
path_next vs i texts s h is =
    ap (λ ws. option_map (λ more. texts ++ more) (path_ids ws)) (item_next vs i h ∙ ap (λ v. item v (items_past (suc i) vs)) is)
    ∙ more_of texts s (path_ids (items_past (suc i) vs))
    ∙ ap (λ n. option_map (λ more. (texts ++ (s ∷ [])) ++ more) (path_ids (items_past n vs))) (one_later i)
