use Rattle.std.proofs.Common.{Err, sym, subst}
use Rattle.mg_value.specs.View.{view}
use Rattle.mg_selector.specs.Reading.{ReadsAs, reading}
use Rattle.mg_selector.specs.View.{selector_of}
use Rattle.mg_selector.specs.declared.error.SelError.{SelError}
use Rattle.mg_selector.proofs.Faults.{fault_or_no_memory}
use Rattle.mg_selector.proofs.selector.Sel.read.Goals as goal

pub returns-in-Err-NoMemory-clause-reading : goal.returns-in-Err-NoMemory-clause-reading
returns-in-Err-NoMemory-clause-reading c =
    let r = reading (view c.args.value.now) in
    let P : SelError → Type 0 = λ e. ReadsAs selector_of (Err e) r in
    subst P (sym c.fault_or_no_memory.ensures) (fault_or_no_memory selector_of r)
