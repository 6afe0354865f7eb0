-- The commits of events, and their replies.
use Rattle.std.proofs.Common.{◌≡◌, ℕ, true, List, [], ◌∷◌, ◌++◌, inl, inr, Option, Some, None, map, refl, ap, sym, ◌∙◌}
use Rattle.std.proofs.lemmas.List.{append-nil, append_assoc, map-append}
use Rattle.std.specs.List.{cons_option}
use Rattle.mg_engine.specs.declared.refusal.Refusal.TheVariants.{TooLarge}
use Rattle.mg_engine.specs.World.{World}
use Rattle.mg_engine.specs.Commands.{Asked, Answer, is_write, next, refused, reply_of, replies_of, world_after}
use Rattle.mg_machine.specs.Machine.{Commit, Event, publish, enter, answer, told, Machine, commands_of, world_of, are_full, write_reply, written, happens, machine_after}
use Rattle.mg_engine.specs.Settled.{is_accepted}
use Rattle.mg_machine.specs.Laws.{if_accepted, accepted_of, all_accepted}
use Rattle.mg_machine.proofs.Beginnings.{two}

world_after-one : (w : World) (cs : List Asked) (c : Asked) → world_after w (cs ++ c ∷ []) ≡ next (world_after w cs) c
world_after-one w [] c = refl
world_after-one w (d ∷ cs) c = world_after-one (next w d) cs c

pub replies-one : (w : World) (cs : List Asked) (c : Asked) → replies_of w (cs ++ c ∷ []) ≡ replies_of w cs ++ reply_of (world_after w cs) c ∷ []
replies-one w [] c = refl
replies-one w (d ∷ cs) c = ap (λ rs. reply_of w d ∷ rs) (replies-one (next w d) cs c)

-- the world after one more commit is the next one
pub world_of-one : (name : List ℕ) (cs : List Commit) (p : Commit) → world_of name (cs ++ p ∷ []) ≡ next (world_of name cs) p.1
world_of-one name cs p = ap (world_after _) (map-append (λ c. c.1) cs (p ∷ [])) ∙ world_after-one _ (commands_of cs) p.1

-- ---- one event

-- what the accepted write of an event, if there is one, adds to the commits
abbrev pub Adds : List ℕ → Machine → Machine → Option (Commit × Answer) → Type 0
Adds name m n None = n.commits ≡ m.commits
Adds name m n (Some p) = (n.commits ≡ m.commits ++ p.0 ∷ []) × (p.1 ≡ reply_of (world_of name m.commits) p.0.1)

-- an accepted write had room in the log, so its reply is the engine's
reply_is : (name : List ℕ) (cs : List Commit) (c : Asked) → is_accepted (write_reply name cs c) ≡ true → write_reply name cs c ≡ reply_of (world_of name cs) c
reply_is name cs c t = elim (two (are_full cs)) [
  | inl full ↦ absurd (let no : is_accepted (refused TooLarge) ≡ true = rw full at t in cc)
  | inr room ↦ rw room refl
]

wrote : (name : List ℕ) (m : Machine) (seat : ℕ) (c : Asked) → Adds name m (written name m seat c).0 (if_accepted (seat, c) (write_reply name m.commits c))
wrote name m seat c = elim (two (is_accepted (write_reply name m.commits c))) [
  | inl t ↦ let r = reply_is name m.commits c t in rw t (refl, r)
  | inr f ↦ rw f refl
]

added : (name : List ℕ) (m : Machine) (e : Event) → Adds name m (happens name m e).0 (accepted_of name m e)
added name m (publish seat c) = elim (two (is_write c)) [ inl t ↦ rw t (wrote name m seat c) | inr f ↦ rw f refl ]
added name m (enter seat) = refl
added name m (answer seat c) = elim (two (is_write c)) [ inl t ↦ rw t (wrote name m seat c) | inr f ↦ rw f refl ]
added name m (told seat by) = refl

-- ---- many events

abbrev firsts : List (Commit × Answer) → List Commit
firsts xs = map (λ p. p.0) xs

abbrev seconds : List (Commit × Answer) → List Answer
seconds xs = map (λ p. p.1) xs

-- the accepted writes that lead from the commits of m to the commits cs, with the replies of the definition
abbrev pub Commits : List ℕ → Machine → List Commit → List (Commit × Answer) → Type 0
Commits name m cs xs = (cs ≡ m.commits ++ firsts xs) × (seconds xs ≡ replies_of (world_of name m.commits) (commands_of (firsts xs)))

one_more : (name : List ℕ) (m n : Machine) (o : Option (Commit × Answer)) (cs : List Commit) (xs : List (Commit × Answer)) → Adds name m n o → Commits name n cs xs → Commits name m cs (cons_option o xs)
one_more name m n None cs xs d r = (r.0 ∙ ap (λ l. l ++ firsts xs) d, r.1 ∙ ap (λ l. replies_of (world_of name l) (commands_of (firsts xs))) d)
one_more name m n (Some p) cs xs d r = (
  r.0 ∙ ap (λ l. l ++ firsts xs) d.0 ∙ append_assoc m.commits (p.0 ∷ []) (firsts xs),
  ap (λ a. a ∷ seconds xs) d.1
      ∙ ap (λ rs. reply_of (world_of name m.commits) p.0.1 ∷ rs) (r.1 ∙ ap (λ w. replies_of w (commands_of (firsts xs))) (ap (world_of name) d.0 ∙ world_of-one name m.commits p.0)),
)

pub committed : (name : List ℕ) (m : Machine) (es : List Event) → Commits name m (machine_after name m es).commits (all_accepted name m es)
committed name m [] = (sym (append-nil m.commits), refl)
committed name m (e ∷ es) =
    let n = (happens name m e).0 in
    one_more name m n (accepted_of name m e) (machine_after name n es).commits (all_accepted name n es) (added name m e) (committed name n es)
