use Rattle.std.proofs.Common.{Err, sym, subst}
use Rattle.mg_value.specs.View.{view}
use Rattle.mg_index.specs.Reading.{ReadsAs, definition_of}
use Rattle.mg_index.specs.Definition.{IndexDefinition}
use Rattle.mg_index.specs.declared.error.IndexError.{IndexError}
use Rattle.mg_index.proofs.Faults.{fault_or_no_memory}
use Rattle.mg_index.proofs.definition.IndexDef.read.Goals as goal

pub returns-in-Err-NoMemory-clause-reading : goal.returns-in-Err-NoMemory-clause-reading
returns-in-Err-NoMemory-clause-reading c =
    let r = definition_of (view c.args.body.now) in
    let item_view : IndexDefinition → IndexDefinition = λ d. d in
    let P : IndexError → Type 0 = λ e. ReadsAs item_view (Err e) r in
    subst P (sym c.fault_or_no_memory.ensures) (fault_or_no_memory item_view r)
