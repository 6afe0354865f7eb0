-- How the first error of several steps is passed on, as by Rust's `?`.
use Rattle.std.specs.Prelude.{Result, Ok, Err}

-- the error, or what f gives for the value
infixl 10 ◌>>=◌
abbrev pub ◌>>=◌ : {A B E : Type 0} → Result A E → (A → Result B E) → Result B E
(Ok x) >>= f = f x
(Err e) >>= f = Err e
