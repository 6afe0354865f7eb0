-- Arms that are read one after another.
use Rattle.std.proofs.Common.{◌≡◌, List, [], ◌∷◌, ◌++◌, length, Result, Ok, Err, refl, ap}
use Rattle.mg_value.specs.Value.{object}
use Rattle.mg_value.specs.View.{members_view}
use Rattle.mg_value.proofs.Views.{Entry}
use Rattle.mg_value.specs.Results.{◌>>=◌}
use Rattle.mg_selector.specs.Fault.{fmap}
use Rattle.mg_selector.specs.Reading.{argument}
use Rattle.mg_selector.specs.Selector.{Selector, Arms, no_arms, arm}
use Rattle.mg_selector.specs.View.{selector_of, arms_view}
use Rattle.mg_selector.specs.declared.error.SelError.{SelError}
use Rattle.mg_selector.specs.declared.selector.Sel.{Sel}

-- the selectors as arms, before the rest
abbrev pub arms_before : List Sel → Arms → Arms
arms_before [] rest = rest
arms_before (s ∷ ss) rest = arm (selector_of s) (arms_before ss rest)

pub none_before : (r : Result Arms SelError) → r ≡ fmap (arms_before []) r
none_before (Ok ss) = refl
none_before (Err e) = refl

push : (ss : List Sel) (s : Sel) (rest : Arms) → arms_before ss (arm (selector_of s) rest) ≡ arms_before (ss ++ s ∷ []) rest
push [] s rest = refl
push (x ∷ ss) s rest = ap (arm (selector_of x)) (push ss s rest)

-- one more arm was read
pub one_more : (ss : List Sel) (s : Sel) (first : Result Selector SelError) (r : Result Arms SelError) → first ≡ Ok (selector_of s)
    → fmap (arms_before ss) (first >>= λ x. fmap (arm x) r) ≡ fmap (arms_before (ss ++ s ∷ [])) r
one_more ss s first (Ok rest) e = rw e (ap Ok (push ss s rest))
one_more ss s first (Err d) e = rw e

pub all_before : (ss : List Sel) → arms_before ss no_arms ≡ arms_view ss
all_before [] = refl
all_before (s ∷ ss) = ap (arm (selector_of s)) (all_before ss)

-- an argument with members is a selector
pub argument-object : (es : List Entry) (inner : Result Selector SelError) → (length es ≡ 0 → ⊥) → argument (object (members_view es)) inner ≡ inner
argument-object [] inner some = absurd (some refl)
argument-object (e ∷ es) inner some = refl
