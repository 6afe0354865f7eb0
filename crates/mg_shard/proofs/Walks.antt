-- The elements after a place, with a function applied to each; and the served documents before the last one.
use Rattle.std.proofs.Common.{◌≡◌, ◌+◌, length, List, [], ◌∷◌, ◌++◌, Bool, true, false, Ordering, Option, Some, None, append-nil, cond, is_gt, is_lt, map, option_map, reverse, refl, ap, sym, ◌∙◌}
use Rattle.std.proofs.lemmas.List.{length-append, reverse-append}
use Rattle.std.proofs.lemmas.List.Elements.{filter_map-append}
use Rattle.std.specs.List.{cons_option, filter}
use Rattle.mg_collate.specs.declared.direction.Direction.{Direction}
use Rattle.mg_collate.specs.declared.direction.Direction.TheVariants.{Asc, Desc}
use Rattle.mg_value.specs.Value.{Value}
use Rattle.mg_pages.specs.Reading.{beyond}
use Rattle.mg_shard.specs.Documents.{doc_entry, docs_in, form_of, kept_entry}
use Rattle.mg_shard.specs.declared.document.Document.{Document}

map-append : {A B : Type 0} (f : A → B) (xs ys : List A) → map f (xs ++ ys) ≡ map f xs ++ map f ys
map-append f [] ys = refl
map-append f (x ∷ xs) ys = ap (λ zs. f x ∷ zs) (map-append f xs ys)

pub reverse-map : {A B : Type 0} (f : A → B) (xs : List A) → map f (reverse xs) ≡ reverse (map f xs)
reverse-map f [] = refl
reverse-map f (x ∷ xs) =
    ap (map f) (reverse-append (x ∷ []) xs) ∙ map-append f (reverse xs) (x ∷ []) ∙ ap (λ ys. ys ++ f x ∷ []) (reverse-map f xs) ∙ sym (reverse-append (f x ∷ []) (map f xs))

where_step : {A B : Type 0} (f : A → B) (b c : Bool) (x : A) (xs : List A) → b ≡ c → map f (cond b (x ∷ xs) xs) ≡ cond c (f x ∷ map f xs) (map f xs)
where_step f true true x xs e = refl
where_step f false false x xs e = refl
where_step f true false x xs e = absurd cc
where_step f false true x xs e = absurd cc

module _ {A B : Type 0} (f : A → B) (against : A → Ordering) (order : B → Ordering) (same : (x : A) → against x ≡ order (f x)) where
  where-map : (p : Ordering → Bool) (xs : List A) → map f (filter (λ x. p (against x)) xs) ≡ filter (λ y. p (order y)) (map f xs)
  where-map p [] = refl
  where-map p (x ∷ xs) =
      where_step f (p (against x)) (p (order (f x))) x (filter (λ y. p (against y)) xs) (ap p (same x)) ∙ ap (λ ys. cond (p (order (f x))) (f x ∷ ys) ys) (where-map p xs)

  -- a function may be applied before or after the elements beyond a place are taken
  pub beyond-map : (direction : Direction) (xs : List A) → map f (beyond direction against xs) ≡ beyond direction order (map f xs)
  beyond-map Asc xs = where-map is_lt xs
  beyond-map Desc xs = reverse-map f (filter (λ x. is_gt (against x)) xs) ∙ ap reverse (where-map is_gt xs)

-- the served documents before the last one, where that is served, and where it is deleted
module _ (ds xs : List Document) (d : Document) (e : ds ≡ xs ++ d ∷ []) where
  docs_before : docs_in ds ≡ docs_in xs ++ cons_option (doc_entry (kept_entry d)) []
  docs_before = ap docs_in e ∙ filter_map-append (λ x. doc_entry (kept_entry x)) xs (d ∷ [])

  pub docs_before_served : (form : Value) → form_of d ≡ Some form → docs_in ds ≡ docs_in xs ++ (d.id, form) ∷ []
  docs_before_served form is = docs_before ∙ ap (λ o. docs_in xs ++ cons_option (option_map (λ v. (d.id, v)) o) []) is

  pub count_before_served : (form : Value) → form_of d ≡ Some form → length (docs_in ds) ≡ length (docs_in xs) + 1
  count_before_served form is = ap length (docs_before_served form is) ∙ length-append (docs_in xs) ((d.id, form) ∷ [])

  pub docs_before_deleted : form_of d ≡ None → docs_in ds ≡ docs_in xs
  docs_before_deleted is = docs_before ∙ ap (λ o. docs_in xs ++ cons_option (option_map (λ v. (d.id, v)) o) []) is ∙ append-nil (docs_in xs)
