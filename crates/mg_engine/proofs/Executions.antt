-- Commands that are executed in order. `ends w` says that w is the world at the end.
use Rattle.std.proofs.Common.{◌≡◌, ℕ, ◌+◌, ◌<◌, ◌≤◌, List, [], ◌∷◌, ◌++◌, Option, Some, None, map, length, drop, get_or, refl, ap, ◌∙◌, suc, add-one, append_assoc, append-nil}
use Rattle.std.proofs.Math.Seq.{drop-cons}
use Rattle.std.proofs.Math.ListN.{drop_of_length-le}
use Rattle.std.proofs.lemmas.List.{map-append}
use Rattle.mg_engine.specs.View.{command_view, reply_view}
use Rattle.mg_engine.specs.declared.command.Command.{Command}
use Rattle.mg_engine.specs.declared.reply.Reply.{Reply}
use Rattle.mg_engine.specs.World.{World}
use Rattle.mg_engine.specs.Commands.{Asked, Answer, next}
use Rattle.mg_engine.specs.Execution.{IsExecution, Answers}

-- the rest of a list from the item at i begins with this item
pub drop_item : {A : Type 0} (xs : List A) (i : ℕ) (x : A) → i < length xs → x ≡ get_or xs i x → drop i xs ≡ x ∷ drop (i + 1) xs
drop_item xs i x h e = drop-cons xs i x h ∙ rw (add-one, ← e)

-- the execution of no commands
over : (w : World) (ends : World → Type 0) → ends w → IsExecution w [] [] ends
over w ends h = record { one_each = refl; replies = refl; world = h }

-- the world after one command
abbrev pub world_then : World → Asked → Option Answer → World
world_then w c None = w
world_then w c (Some a) = next w c

pub ends_then : (w : World) (c : Asked) (r : Option Answer) (ends : World → Type 0) → Answers w c r ends → ends (world_then w c r)
ends_then w c None ends h = h
ends_then w c (Some a) ends h = h.1

-- an execution with one more command and its reply in front
one_more : (w : World) (c : Asked) (r : Option Answer) (now : World → Type 0) (cs : List Asked) (rs : List (Option Answer)) (ends : World → Type 0)
    → Answers w c r now → IsExecution (world_then w c r) cs rs ends → IsExecution w (c ∷ cs) (r ∷ rs) ends
one_more w c None now cs rs ends h run = record { one_each = ap suc run.one_each; replies = run.replies; world = run.world }
one_more w c (Some a) now cs rs ends h run =
    record { one_each = ap suc run.one_each; replies = (λ i. h.0 i ∷ run.replies i); world = run.world }

-- the loop's step: an execution from after the command completes one from before it
pub goes_on_after : (w u : World) (cs : List Command) (i : ℕ) (c : Command) (replies : List Reply) (r : Reply) (now ends : World → Type 0) (rs : List (Option Answer))
    → i < length cs → c ≡ get_or cs i c → Answers u (command_view c) (reply_view r) now
    → ((rs : List (Option Answer)) → IsExecution u (map command_view (drop i cs)) rs ends → IsExecution w (map command_view cs) (map reply_view replies ++ rs) ends)
    → IsExecution (world_then u (command_view c) (reply_view r)) (map command_view (drop (i + 1) cs)) rs ends
    → IsExecution w (map command_view cs) (map reply_view (replies ++ r ∷ []) ++ rs) ends
goes_on_after w u cs i c replies r now ends rs h e did on run =
    let longer : IsExecution u (command_view c ∷ map command_view (drop (i + 1) cs)) (reply_view r ∷ rs) ends = one_more u (command_view c) (reply_view r) now _ rs ends did run in
    let all : IsExecution u (map command_view (drop i cs)) (reply_view r ∷ rs) ends = rw (drop_item cs i c h e) longer in
    rw (map-append, append_assoc) (on (reply_view r ∷ rs) all)

-- the loop's end: no command is left
pub ends_here : (w u : World) (cs : List Command) (i : ℕ) (replies : List Reply) (ends : World → Type 0) → length cs ≤ i → ends u
    → ((rs : List (Option Answer)) → IsExecution u (map command_view (drop i cs)) rs ends → IsExecution w (map command_view cs) (map reply_view replies ++ rs) ends)
    → IsExecution w (map command_view cs) (map reply_view replies) ends
ends_here w u cs i replies ends h st on =
    let none : IsExecution u (map command_view (drop i cs)) [] ends = rw (drop_of_length-le cs h) (over u ends st) in
    rw append-nil at (on [] none)
