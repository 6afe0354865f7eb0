-- The answers to queries: pages, and refusals of queries that are not answered.
use Rattle.std.proofs.Common.{◌≡◌, ℕ, List, [], ◌∷◌, ◌++◌, Result, Ok, Err, sym, ap, ◌∙◌}
use Rattle.mg_value.specs.Value.{Value}
use Rattle.mg_query.specs.Page.{Page, Unanswered, page_value}
use Rattle.mg_query.specs.Paged.{text_of}
use Rattle.mg_query.specs.Served.{FailsAs}
use Rattle.mg_query.specs.declared.error.PageError.{PageError}
use Rattle.mg_query.specs.declared.error.PageError.TheVariants as page_fault
use Rattle.mg_engine.specs.Bodies.{line_of}
use Rattle.mg_engine.specs.Commands.{shown_or_refused}
use Rattle.mg_engine.specs.Faults.{fault_of, refusal_of_page}
use Rattle.mg_engine.specs.Answering.{MakesAnswer}

-- the refusal of a query that is not answered
pub not_answered : {A : Type 0} (value : A → Value) (e : PageError) (r : Result A Unanswered) → FailsAs e r → MakesAnswer (Err (fault_of (refusal_of_page e))) (shown_or_refused value r)
not_answered value page_fault.NoUsableIndex r h = ap (shown_or_refused value) h
not_answered value page_fault.BadBookmark r h = ap (shown_or_refused value) h
not_answered value page_fault.NoMemory r h = tt

-- the line of a value of a page
pub value_shown : {A : Type 0} (value : A → Value) (r : Result A Unanswered) (a : A) (b : List ℕ) → r ≡ Ok a → b ≡ line_of (value a) → shown_or_refused value r ≡ record { status = 200; body = b }
value_shown value r a b is line = ap (shown_or_refused value) is ∙ ap (λ (x : List ℕ). record { status = 200; body = x }) (sym line)

-- if there is no text of the page for this reason, there is no page for this reason
no_text : (e : PageError) (r : Result Page Unanswered) → FailsAs e (text_of r) → FailsAs e r
no_text page_fault.NoUsableIndex (Ok p) h = absurd cc
no_text page_fault.NoUsableIndex (Err why) h = ap (λ r. as_page why r) h
  where
    as_page : Unanswered → Result (List ℕ) Unanswered → Result Page Unanswered
    as_page why (Ok t) = Err why
    as_page why (Err x) = Err x
no_text page_fault.BadBookmark (Ok p) h = absurd cc
no_text page_fault.BadBookmark (Err why) h = ap (λ r. as_page why r) h
  where
    as_page : Unanswered → Result (List ℕ) Unanswered → Result Page Unanswered
    as_page why (Ok t) = Err why
    as_page why (Err x) = Err x
no_text page_fault.NoMemory r h = tt

-- the refusal of a query that has no page
pub no_page : (e : PageError) (r : Result Page Unanswered) → FailsAs e (text_of r) → MakesAnswer (Err (fault_of (refusal_of_page e))) (shown_or_refused page_value r)
no_page e r h = not_answered page_value e r (no_text e r h)

-- the line of a page
pub page_shown : (r : Result Page Unanswered) (t b : List ℕ) → text_of r ≡ Ok t → b ≡ t ++ 10 ∷ [] → shown_or_refused page_value r ≡ record { status = 200; body = b }
page_shown (Ok p) t b h e = ap (λ (x : List ℕ). record { status = 200; body = x }) (ap (λ r. ok_or r t ++ 10 ∷ []) h ∙ sym e)
  where
    ok_or : Result (List ℕ) Unanswered → List ℕ → List ℕ
    ok_or (Ok x) y = x
    ok_or (Err w) y = y
page_shown (Err why) t b h e = absurd cc
