-- What the exit of a `?` returns.
use Rattle.std.proofs.Common.{◌≡◌, Result, Err, sym, ap, subst}
use Rattle.mg_value.specs.Results.{◌>>=◌}
use Rattle.mg_query.specs.View.{Fails, ReadsAs}
use Rattle.mg_query.specs.declared.error.QueryError.{QueryError}
use Rattle.mg_query.specs.declared.error.QueryError.TheVariants.{Shape, InvalidOperator, BadArg, BadBookmark, MixedSort, NoMemory}

-- the fault that `?` returns is what the definition gives
pub exits : {X Y : Type 0} (item_view : X → Y) (result : Result X QueryError) (e y : QueryError) (r : Result Y QueryError) → result ≡ Err y → y ≡ e → Fails e r → ReadsAs item_view result r
exits item_view result e y r h k f = subst (λ z. ReadsAs item_view z r) (sym h) (subst (λ z. Fails z r) (sym k) f)

-- if the first step fails, the steps together fail with its fault
pub fails_first : {A B : Type 0} (e : QueryError) (r : Result A QueryError) (f : A → Result B QueryError) → Fails e r → Fails e (r >>= f)
fails_first Shape r f h = ap (λ x. x >>= f) h
fails_first InvalidOperator r f h = ap (λ x. x >>= f) h
fails_first BadArg r f h = ap (λ x. x >>= f) h
fails_first BadBookmark r f h = ap (λ x. x >>= f) h
fails_first MixedSort r f h = ap (λ x. x >>= f) h
fails_first NoMemory r f h = tt
