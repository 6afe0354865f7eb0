-- Edits that are read one after another.
use Rattle.std.proofs.Common.{◌≡◌, ℕ, suc, ◌+◌, ◌<◌, List, [], ◌∷◌, ◌++◌, length, Bool, true, false, ◌&&◌, Result, Ok, Err, refl, sym, ap, subst, ◌∙◌, append-nil, append_assoc, arith}
use Rattle.mg_value.specs.Value.{Value, Items, item, item_list}
use Rattle.mg_value.proofs.Items.{items_past}
use Rattle.mg_packed.specs.Read.{nth_item}
use Rattle.mg_packed.proofs.Walks.{item_next}
use Rattle.mg_doc.specs.Document.{Edit, is_object}
use Rattle.mg_doc.specs.declared.error.DocError.{DocError}
use Rattle.mg_doc.specs.Document as document
use Rattle.mg_doc.specs.declared.error.DocError.TheVariants as document_fault
use Rattle.std.specs.Result.{IsErr, IsErrAnd}
use Rattle.std.specs.declared.alloc.Global.{Global}
use Rattle.std.specs.declared.vec.Vec.{Vec}
use Rattle.mg_value.specs.Results.{◌>>=◌}
use Rattle.mg_engine.specs.Bulk.{are_objects, edits_or_refusal, refusal_of_document}
use Rattle.mg_engine.specs.BulkView.{edits_view}
use Rattle.mg_engine.specs.Faults.{ReadsAs, fault_of}
use Rattle.mg_engine.specs.declared.fault.Fault.{Fault}

-- the edits that were read, in front of the rest
abbrev pub edits_before : List Edit → Result (List Edit) DocError → Result (List Edit) DocError
edits_before found (Ok es) = Ok (found ++ es)
edits_before found (Err e) = Err e

pub none_before : (r : Result (List Edit) DocError) → r ≡ edits_before [] r
none_before (Ok es) = refl
none_before (Err e) = refl

-- an edit and what follows it
abbrev pub edit_then : Result Edit DocError → Result (List Edit) DocError → Result (List Edit) DocError
edit_then first rest = first >>= (λ e. rest >>= (λ es. Ok (e ∷ es)))

pub one_more : (found : List Edit) (e : Edit) (first : Result Edit DocError) (rest : Result (List Edit) DocError) → first ≡ Ok e
    → edits_before found (edit_then first rest) ≡ edits_before (found ++ e ∷ []) rest
one_more found e first (Ok es) is = rw is (ap Ok (sym (append_assoc found (e ∷ []) es)))
one_more found e first (Err d) is = rw is

pub refused : (found : List Edit) (d : DocError) (first : Result Edit DocError) (rest : Result (List Edit) DocError) → first ≡ Err d
    → edits_before found (edit_then first rest) ≡ Err d
refused found d first rest is = rw is

-- the fault of the next document, as an error, is the refusal of the bulk, unless memory was refused
pub refused_as : (new_edits : Bool) (all : Result (List Edit) DocError) (found : List Edit) (fault : DocError) (first : Result Edit DocError) (rest : Result (List Edit) DocError)
    → all ≡ edits_before found (edit_then first rest) → document.ReadsAs first (Err fault) → (made : Result (Vec Edit Global) Fault)
    → IsErr made × IsErrAnd made (λ e. e ≡ fault_of (refusal_of_document fault)) → ReadsAs (edits_view new_edits) made (edits_or_refusal new_edits all)
refused_as n all found fault first rest is read (Ok es) e = let never = e.0 in absurd cc
refused_as n all found document_fault.NoMemory first rest is read (Err f) e = subst (λ f. ReadsAs (edits_view n) (Err f) (edits_or_refusal n all)) (sym e.1) tt
refused_as n all found document_fault.BadMember first rest is read (Err f) e =
    subst (λ f. ReadsAs (edits_view n) (Err f) (edits_or_refusal n all)) (sym e.1) (ap (edits_or_refusal n) (is ∙ refused found document_fault.BadMember first rest read))
refused_as n all found document_fault.BadId first rest is read (Err f) e =
    subst (λ f. ReadsAs (edits_view n) (Err f) (edits_or_refusal n all)) (sym e.1) (ap (edits_or_refusal n) (is ∙ refused found document_fault.BadId first rest read))
refused_as n all found document_fault.BadRev first rest is read (Err f) e =
    subst (λ f. ReadsAs (edits_view n) (Err f) (edits_or_refusal n all)) (sym e.1) (ap (edits_or_refusal n) (is ∙ refused found document_fault.BadRev first rest read))

pub all_before : (found : List Edit) → edits_before found (Ok []) ≡ Ok found
all_before found = ap Ok (append-nil found)

first_of_both : (a b : Bool) → (a && b) ≡ true → a ≡ true
first_of_both true b h = refl
first_of_both false b h = absurd cc

if_both : (a b : Bool) → (a && b) ≡ true → b ≡ true
if_both true b h = h
if_both false b h = absurd cc

-- of documents that are all objects, those after the first are objects
pub later_objects : (v : Value) (vs : Items) → (is_object v && are_objects vs) ≡ true → are_objects vs ≡ true
later_objects v vs h = if_both (is_object v) (are_objects vs) h

-- of documents that are all objects, the first is an object
pub first_object : (v : Value) (vs : Items) → (is_object v && are_objects vs) ≡ true → is_object v ≡ true
first_object v vs h = first_of_both (is_object v) (are_objects vs) h

-- the items from an index on: the item there, which is v, and those after it
pub next_item : (vs : Items) (i : ℕ) (v : Value) → i < length (item_list vs) → v ≡ nth_item vs i → items_past i vs ≡ item v (items_past (i + 1) vs)
next_item vs i v less is =
    let next : suc i ≡ i + 1 = omega arith in
    item_next vs i less ∙ ap (λ n. item (nth_item vs i) (items_past n vs)) next ∙ ap (λ w. item w (items_past (i + 1) vs)) (sym is)
