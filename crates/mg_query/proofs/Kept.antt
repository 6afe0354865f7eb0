-- What a shard keeps of a document stands for the history and the form of its candidate.
use lib.Dec.{T, eqb}
use Rattle.std.proofs.Common.{◌≡◌, ℕ, Bool, true, false, ◌&&◌, cond, List, [], ◌∷◌, ◌++◌, Option, Some, None, option_map, option_to_list, Ordering, Less, Equal, Greater, is_eq, is_lt, refl, sym, ap, ◌∙◌, subst}
use Rattle.std.specs.FinMap.{entries, entries_sorted, find, get, get-entries}
use Rattle.std.specs.FinMap.Entries.{below_all, is_sorted}
use Rattle.std.specs.List.{AllByRecursion, filter_map}
use Rattle.std.specs.Ordering.{eq_by_cmp, ordering_reverse}
use Rattle.std.proofs.lemmas.Cmp.{nat_list_cmp_total, tied_itself}
use Rattle.mg_value.specs.Value.{Value}
use Rattle.mg_doc.specs.Served.{served_of}
use Rattle.mg_revtree.specs.History.{Paths}
use Rattle.mg_revtree.specs.Tree.{StandsFor}
use Rattle.mg_shard.specs.Dealt.{Placing, histories_on}
use Rattle.mg_shard.specs.Documents.{KeptDocument, KeptDocuments, StandFor, StandsAt}
use Rattle.mg_shard.specs.Histories.{Histories}
use Rattle.mg_shard.proofs.Dealing.{get-kept}
use Rattle.mg_shard.proofs.Shown.{bytes_cmp}
use Rattle.mg_query.specs.Page.{Candidate, candidate_of, candidates_of}
use Rattle.mg_query.proofs.Candidates.{shown_first}

-- ---- each candidate has the history of its id

both : (a b : Bool) → T (a && b) → T a × T b
both true b h = (tt, h)
both false b h = absurd h

not_eq : (o p : Ordering) → p ≡ ordering_reverse o → T (is_lt o) → is_eq p ≡ false
not_eq Less p e h = ap is_eq e
not_eq Equal p e h = absurd h
not_eq Greater p e h = absurd h

still : (e : List ℕ × Paths) (all ds : List (List ℕ × Paths)) → T (below_all bytes_cmp e.0 ds) → AllByRecursion (λ d. find bytes_cmp d.0 all ≡ Some d.1) ds
    → AllByRecursion (λ d. find bytes_cmp d.0 (e ∷ all) ≡ Some d.1) ds
still e all [] h k = tt
still e all (d ∷ ds) h k =
    let p = both (is_lt (bytes_cmp e.0 d.0)) (below_all bytes_cmp e.0 ds) h in
    let apart : eq_by_cmp bytes_cmp d.0 e.0 ≡ false = not_eq (bytes_cmp e.0 d.0) (bytes_cmp d.0 e.0) (nat_list_cmp_total.antisymm d.0 e.0) p.0 in
    (ap (λ b. cond b (Some e.1) (find bytes_cmp d.0 all)) apart ∙ k.0, still e all ds p.1 k.1)

found_each : (es : List (List ℕ × Paths)) → T (is_sorted bytes_cmp es) → AllByRecursion (λ e. find bytes_cmp e.0 es ≡ Some e.1) es
found_each [] h = tt
found_each (e ∷ es) h =
    let p = both (below_all bytes_cmp e.0 es) (is_sorted bytes_cmp es) h in
    let itself : eq_by_cmp bytes_cmp e.0 e.0 ≡ true = ap is_eq (tied_itself nat_list_cmp_total e.0) in
    (ap (λ b. cond b (Some e.1) (find bytes_cmp e.0 es)) itself, still e es es p.0 (found_each es p.1))

-- the history of the candidate's id is the candidate's, and is served in the candidate's form
abbrev pub IsKnown : Histories → Candidate → Type 0
IsKnown hs c = (get hs c.id ≡ Some c.history) × (served_of c.id c.history ≡ Some c.form)

known_one : (hs : Histories) (id : List ℕ) (h : Paths) (o : Option Value) (rest : List Candidate) → get hs id ≡ Some h → served_of id h ≡ o → AllByRecursion (IsKnown hs) rest
    → AllByRecursion (IsKnown hs) (option_to_list (option_map (λ form. record { id = id; form = form; history = h }) o) ++ rest)
known_one hs id h None rest k s m = m
known_one hs id h (Some form) rest k s m = ((k, s), m)

known_in : (hs : Histories) (es : List (List ℕ × Paths)) → AllByRecursion (λ e. find bytes_cmp e.0 (entries hs) ≡ Some e.1) es → AllByRecursion (IsKnown hs) (filter_map candidate_of es)
known_in hs [] h = tt
known_in hs (e ∷ es) h =
    subst (AllByRecursion (IsKnown hs)) (sym (shown_first candidate_of e es (candidate_of e) refl))
    (known_one hs e.0 e.1 (served_of e.0 e.1) (filter_map candidate_of es) (get-entries hs e.0 ∙ h.0) refl (known_in hs es h.1))

pub all_known : (hs : Histories) → AllByRecursion (IsKnown hs) (candidates_of hs)
all_known hs = known_in hs (entries hs) (found_each (entries hs) (entries_sorted hs))

-- ---- what a shard keeps of an id stands for the id's history

had : {X : Type 0} (b : Bool) (o : Option X) (x : X) → cond b o None ≡ Some x → o ≡ Some x
had true o x e = e
had false o x e = absurd cc

stands_at : (id : List ℕ) (kept : KeptDocument) (o : Option Paths) → StandsAt id (Some kept) o → (h : Paths) × (o ≡ Some h) × StandsFor kept.0 h × (kept.1 ≡ served_of id h)
stands_at id kept None s = absurd s
stands_at id kept (Some h) s = (h, refl, s.0, s.1)

pub kept_history : (place : Placing) (n i : ℕ) (hs : Histories) (id : List ℕ) (ds : KeptDocuments) (kept : KeptDocument) → StandFor ds (histories_on place n i hs) → get ds id ≡ Some kept
    → (h : Paths) × (get hs id ≡ Some h) × StandsFor kept.0 h × (kept.1 ≡ served_of id h)
kept_history place n i hs id ds kept stands e =
    let on = histories_on place n i hs in
    let s = stands_at id kept (get on id) (subst (λ o. StandsAt id o (get on id)) e (stands id)) in
    (s.0, had (eqb (place id n) i) (get hs id) s.0 (sym (get-kept hs (λ x. eqb (place x n) i) id) ∙ s.1), s.2, s.3)
