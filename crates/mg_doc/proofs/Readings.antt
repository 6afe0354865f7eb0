-- What the parts of a reading give together.
use Rattle.std.proofs.Common.{◌≡◌, Option, Some, None, Err, option_and_then, refl, ap}
use Rattle.std.specs.Prelude.{ok_or}
use Rattle.mg_doc.specs.Document.{ReadsAs}
use Rattle.mg_doc.specs.declared.error.DocError.{DocError}
use Rattle.mg_doc.specs.declared.error.DocError.TheVariants.{BadMember, BadId, BadRev, NoMemory}

fault_of_none : {A B : Type 0} (fault : DocError) (o : Option A) (p : Option B) (e : DocError) → (o ≡ None → p ≡ None) → ok_or o fault ≡ Err e → ok_or p fault ≡ Err e
fault_of_none fault None p e none h = let same : fault ≡ e = cc in rw (none refl) (ap Err same)
fault_of_none fault (Some a) p e none h = absurd cc

-- the fault of a part is that of the whole
pub gives_fault : {A B : Type 0} (fault : DocError) (o : Option A) (p : Option B) (e : DocError) → (o ≡ None → p ≡ None) → ReadsAs (ok_or o fault) (Err e) → ReadsAs (ok_or p fault) (Err e)
gives_fault fault o p BadMember none h = fault_of_none fault o p BadMember none h
gives_fault fault o p BadId none h = fault_of_none fault o p BadId none h
gives_fault fault o p BadRev none h = fault_of_none fault o p BadRev none h
gives_fault fault o p NoMemory none h = tt

pub none_later : {A B C : Type 0} (o : Option A) (p : Option B) (f : A → B → Option C) → p ≡ None → option_and_then (λ a. option_and_then (f a) p) o ≡ None
none_later None p f h = refl
none_later (Some a) p f h = rw h refl
