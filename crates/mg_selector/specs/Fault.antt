-- The error that a path's error gives a selector, and `fmap`, which applies a function to a result unless it is a fault.
use Rattle.std.specs.Prelude.{Result, Ok, Err}
use Rattle.mg_path.specs.declared.error.PathError.{PathError}
use Rattle.mg_path.specs.declared.error.PathError.TheVariants.{Empty, NoMemory as path_refused}
use Rattle.mg_selector.specs.declared.error.SelError.{SelError}
use Rattle.mg_selector.specs.declared.error.SelError.TheVariants.{BadArg, NoMemory}

-- the error of a selector when one of its paths has this error
abbrev pub error_of_path : PathError → SelError
error_of_path Empty = BadArg
error_of_path path_refused = NoMemory

-- f of the value; a fault stays as it is
abbrev pub fmap : {A B E : Type 0} → (A → B) → Result A E → Result B E
fmap f (Ok x) = Ok (f x)
fmap f (Err e) = Err e
