-- How the faults of the code match the refusals of the definitions.
use Rattle.std.specs.Prelude.{◌≡◌, Result, Ok, Err}
use Rattle.mg_query.specs.Page.{bad_bookmark, no_usable_index}
use Rattle.mg_query.specs.declared.error.PageError.{PageError}
use Rattle.mg_query.specs.declared.error.PageError.TheVariants as page_fault
use Rattle.mg_engine.specs.Commands.{refusal_for}
use Rattle.mg_engine.specs.declared.fault.Fault.{Fault}
use Rattle.mg_engine.specs.declared.fault.Fault.TheVariants.{Refused, NoMemory}
use Rattle.mg_engine.specs.declared.refusal.Refusal.{Refusal}
use Rattle.mg_engine.specs.declared.refusal.Refusal.TheVariants.{OutOfMemory}

-- the call read what the definition reads, or refused the body for the reason that the definition gives, or memory was refused
abbrev pub ReadsAs : {A B : Type 0} → (A → B) → Result A Fault → Result B Refusal → Type 0
ReadsAs seen (Ok a) r = r ≡ Ok (seen a)
ReadsAs seen (Err (Refused f)) r = r ≡ Err f
ReadsAs seen (Err NoMemory) r = Unit {0}

-- the fault that stands for a refusal: `NoMemory` for `OutOfMemory`, otherwise the refusal itself
abbrev pub fault_of : Refusal → Fault
fault_of OutOfMemory = NoMemory
fault_of r = Refused r

-- why a page was not made, as a refusal
abbrev pub refusal_of_page : PageError → Refusal
refusal_of_page page_fault.NoUsableIndex = refusal_for no_usable_index
refusal_of_page page_fault.BadBookmark = refusal_for bad_bookmark
refusal_of_page page_fault.NoMemory = OutOfMemory
