-- The index that is chosen is the one of its design document and name among the definitions of a catalog.
use Rattle.std.proofs.Common.{◌≡◌, Bool, true, false, ◌&&◌, cond, List, [], ◌∷◌, Option, Some, None, Less, Equal, refl, sym, ap, ap₂, ◌∙◌, subst}
use Rattle.std.proofs.lemmas.Bool.{and_parts}
use Rattle.std.proofs.lemmas.Cmp.{nat_list_cmp_total, tied_itself}
use Rattle.std.proofs.lemmas.Slice.Eq.{bytes_eq-Decides}
use Rattle.std.specs.Cmp.Lexicographic.{slice_cmp}
use Rattle.std.specs.List.{AllByRecursion}
use Rattle.std.specs.Ordering.{nat_cmp, ordering_then}
use Rattle.std.specs.Str.{bytes_eq}
use Rattle.mg_normal.specs.Atoms.{Atom}
use Rattle.mg_index.specs.Catalog.{IsCatalog, definition_at, definition_order, is_named}
use Rattle.mg_index.specs.Choice.{Hint, Source, all_docs, defined, all_docs_usable, choice_of, is_usable, least, or_all_docs, preference, usable_of}
use Rattle.mg_index.specs.Definition.{IndexDefinition, Steps}
use Rattle.mg_query.specs.Served.{IsInCatalog}
use Rattle.mg_query.proofs.Sorts.{all_kept}
use Rattle.mg_query.proofs.Usable.{least_has, same}

alike : (d e : IndexDefinition) → d.ddoc ≡ e.ddoc → d.name ≡ e.name → definition_order e d ≡ Equal
alike d e ddoc name =
    ap₂ (λ a b. ordering_then (slice_cmp nat_cmp e.ddoc a) (slice_cmp nat_cmp e.name b)) ddoc name
    ∙ ap₂ ordering_then (tied_itself nat_list_cmp_total e.ddoc) (tied_itself nat_list_cmp_total e.name)

not_at : (d e : IndexDefinition) (b : Bool) → is_named d.ddoc d.name e ≡ b → definition_order e d ≡ Less → b ≡ false
not_at d e false h less = refl
not_at d e true h less =
    let p = and_parts (bytes_eq d.ddoc e.ddoc) (bytes_eq d.name e.name) h in
    let wrong : Less ≡ Equal = sym less ∙ alike d e ((bytes_eq-Decides d.ddoc e.ddoc).0 p.0) ((bytes_eq-Decides d.name e.name).0 p.1) in
    absurd cc

-- the definition is the one of its design document and name
abbrev pub IsFound : List IndexDefinition → IndexDefinition → Type 0
IsFound ds d = definition_at d.ddoc d.name ds ≡ Some d

first : (d : IndexDefinition) (ds : List IndexDefinition) → IsFound (d ∷ ds) d
first d ds =
    ap (λ b. cond b (Some d) (definition_at d.ddoc d.name ds)) (ap₂ ◌&&◌ ((bytes_eq-Decides d.ddoc d.ddoc).1 refl) ((bytes_eq-Decides d.name d.name).1 refl))

later : (e : IndexDefinition) (es ds : List IndexDefinition) → AllByRecursion (λ d. definition_order e d ≡ Less) ds → AllByRecursion (IsFound es) ds → AllByRecursion (IsFound (e ∷ es)) ds
later e es [] h k = tt
later e es (d ∷ ds) h k =
    (ap (λ b. cond b (Some e) (definition_at d.ddoc d.name es)) (not_at d e (is_named d.ddoc d.name e) refl h.0) ∙ k.0, later e es ds h.1 k.1)

-- each definition of a catalog is the one of its design document and name
pub all_found : (ds : List IndexDefinition) → IsCatalog ds → AllByRecursion (IsFound ds) ds
all_found [] h = tt
all_found (d ∷ ds) h = (first d ds, later d ds ds h.0 (all_found ds h.1))

by_id : (ds : List IndexDefinition) (b : Bool) (s : Source) → cond b (Some all_docs) None ≡ Some s → IsInCatalog ds s
by_id ds false s e = absurd cc
by_id ds true s e = subst (IsInCatalog ds) (same all_docs s e) tt

chosen : (ds : List IndexDefinition) (sort : List Steps) (o : Option IndexDefinition) (s : Source) → ((d : IndexDefinition) → o ≡ Some d → IsFound ds d) → or_all_docs sort o ≡ Some s → IsInCatalog ds s
chosen ds sort None s h e = by_id ds (all_docs_usable sort) s e
chosen ds sort (Some d) s h e = subst (IsInCatalog ds) (same (defined d) s e) (h d refl)

pub choice_listed : (ds : List IndexDefinition) (atoms : List Atom) (sort : List Steps) (hint : Hint) (s : Source) → IsCatalog ds → choice_of ds atoms sort hint ≡ Some s → IsInCatalog ds s
choice_listed ds atoms sort hint s catalog e =
    chosen ds sort (least (preference atoms hint) (usable_of atoms sort ds)) s
    (λ d k. least_has (IsFound ds) (preference atoms hint) (usable_of atoms sort ds) (all_kept (IsFound ds) (λ x. is_usable atoms sort x.columns) ds (all_found ds catalog)) d k) e
