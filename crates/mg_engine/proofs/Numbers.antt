-- How many shards there are while commands are executed in order.
use Rattle.std.proofs.Common.{◌≡◌, ℕ, ◌+◌, ◌<◌, ◌≤◌, List, [], ◌∷◌, ◌++◌, Option, Some, None, IfNone, IfSome, map, length, drop, get_or, refl, sym, ap, ◌∙◌, append_assoc, append-nil}
use Rattle.std.proofs.Math.ListN.{drop_of_length-le}
use Rattle.std.proofs.lemmas.List.{map-append}
use Rattle.mg_engine.specs.Commands.{Asked, Answer, shards_after, shards_after_all}
use Rattle.mg_engine.specs.Execution.{answered_commands}
use Rattle.mg_engine.specs.View.{command_view, reply_view}
use Rattle.mg_engine.specs.declared.command.Command.{Command}
use Rattle.mg_engine.specs.declared.reply.Reply.{Reply}
use Rattle.mg_engine.proofs.Executions.{drop_item}

-- the number of shards after one command; it stays as it was where memory was refused
abbrev pub number_then : ℕ → Asked → Option Answer → ℕ
number_then n c None = n
number_then n c (Some a) = shards_after n c

pub is_number_then : {E : Type 0} (count : E → ℕ) (before after : E) (c : Asked) (r : Option Answer)
    → IfNone r (after ≡ before) → IfSome r (λ _. count after ≡ shards_after (count before) c) → count after ≡ number_then (count before) c r
is_number_then count before after c None h k = ap count h
is_number_then count before after c (Some a) h k = k

first_of : (n : ℕ) (c : Asked) (r : Option Answer) (cs : List Asked) (rs : List (Option Answer))
    → shards_after_all (number_then n c r) (answered_commands cs rs) ≡ shards_after_all n (answered_commands (c ∷ cs) (r ∷ rs))
first_of n c None cs rs = refl
first_of n c (Some a) cs rs = refl

-- the loop's step: from the number after this command, the rest of the commands give the number that all commands give from the first
pub number_after : (first now then : ℕ) (cs : List Command) (i : ℕ) (c : Command) (replies : List Reply) (r : Reply) (rs : List (Option Answer))
    → i < length cs → c ≡ get_or cs i c → then ≡ number_then now (command_view c) (reply_view r)
    → ((rs : List (Option Answer)) → shards_after_all now (answered_commands (map command_view (drop i cs)) rs) ≡ shards_after_all first (answered_commands (map command_view cs) (map reply_view replies ++ rs)))
    → shards_after_all then (answered_commands (map command_view (drop (i + 1) cs)) rs) ≡ shards_after_all first (answered_commands (map command_view cs) (map reply_view (replies ++ r ∷ []) ++ rs))
number_after first now then cs i c replies r rs h e did on =
    let rest = map command_view (drop (i + 1) cs) in
    rw (map-append, append_assoc)
    (ap (λ n. shards_after_all n (answered_commands rest rs)) did
    ∙ first_of now (command_view c) (reply_view r) rest rs
    ∙ ap (λ ds. shards_after_all now (answered_commands (map command_view ds) (reply_view r ∷ rs))) (sym (drop_item cs i c h e))
    ∙ on (reply_view r ∷ rs))

-- the loop's end: no command is left
pub number_here : (first now : ℕ) (cs : List Command) (i : ℕ) (replies : List Reply) → length cs ≤ i
    → ((rs : List (Option Answer)) → shards_after_all now (answered_commands (map command_view (drop i cs)) rs) ≡ shards_after_all first (answered_commands (map command_view cs) (map reply_view replies ++ rs)))
    → now ≡ shards_after_all first (answered_commands (map command_view cs) (map reply_view replies))
number_here first now cs i replies h on =
    ap (λ ds. shards_after_all now (answered_commands (map command_view ds) [])) (sym (drop_of_length-le cs h))
    ∙ on []
    ∙ ap (λ rs. shards_after_all first (answered_commands (map command_view cs) rs)) (append-nil (map reply_view replies))
