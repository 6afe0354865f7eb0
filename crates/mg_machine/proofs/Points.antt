-- Which commits points stand after, and which machine seats follow.
use Rattle.std.proofs.Common.{◌≡◌, ◌+◌, ◌<◌, ℕ, zero, suc, true, false, List, [], ◌∷◌, ◌++◌, All, IfSome, Option, Some, None, is_some, length, get_or, slice_get, slice_set, replicate, unwrap_or, refl, ap, sym, ◌∙◌, subst, arith, nat_lt, ◌≤◌, length-append}
use Rattle.std.proofs.lemmas.Bool.Decides.{nat_tests}
use Rattle.std.proofs.lemmas.List.{map-append}
use Rattle.std.specs.Arc.{arc_value}
use Rattle.std.specs.Option.{option_map_or}
use Rattle.mg_engine.specs.World.{World}
use Rattle.mg_engine.specs.Commands.{Asked, Answer, reply_of, shards_after, shards_after_all}
use Rattle.mg_engine.specs.Execution.{Answers}
use Rattle.mg_engine.specs.Settled.{IsSettled}
use Rattle.mg_engine.specs.Stands.{StateView, Stands, shard_count}
use Rattle.mg_engine.specs.View.{reply_view}
use Rattle.mg_engine.specs.declared.reply.Reply.{Reply}
use Rattle.mg_shard.specs.declared.placement.Md5Placement.{Md5Placement}
use Rattle.mg_machine.specs.Machine.{Commit, Machine, after_write, are_full, entered, commands_of, longer_of, seen_by, shards_of, with_seen, world_of, write_reply}
use Rattle.mg_engine.specs.Settled.{is_accepted}
use Rattle.mg_machine.specs.Seats.{AreAfter, SeatsStandFor, by_md5}
use Rattle.mg_machine.specs.Points.{IsAfter, HasShardsAfter}
use Rattle.mg_machine.specs.declared.point.Point.{Point}
use Rattle.mg_machine.specs.declared.seats.Seats.{Seats}
use Rattle.mg_machine.proofs.Commits.{world_of-one}

-- ---- one read

-- an optional answer that is there, and that is `a` if it is there, is `Some a`
pub said_is : (o : Option Answer) (a : Answer) → is_some o ≡ true → IfSome o (λ x. x ≡ a) → o ≡ Some a
said_is None a some is = absurd cc
said_is (Some x) a some is = ap Some is

-- ---- one write

-- the reply to a write after commits, and where the point after it stands
abbrev pub Written : {P : Type 0} → (P → List ℕ → ℕ → ℕ) → List ℕ → List Commit → ℕ → Asked → Option Answer → Point P → Type 0
Written place name cs seat c o p = (o ≡ Some (write_reply name cs c)) × IsAfter place name p (after_write name cs seat c)

module _ {P : Type 0} {place : P → List ℕ → ℕ → ℕ} where
  -- if there is room for one more commit, the reply is the engine's
  replied : (name : List ℕ) (p : Point P) (cs : List Commit) (c : Asked) → p.commits < 18446744073709551615 → IsAfter place name p cs → write_reply name cs c ≡ reply_of (world_of name cs) c
  replied name p cs c room at =
      let free : are_full cs ≡ false = grind (arith, nat_tests, room, at.commits) in
      rw free refl

  -- the point after a write whose answer accepts it
  accepted : (name : List ℕ) (p q : Point P) (cs : List Commit) (seat : ℕ) (c : Asked) (o : Option Answer) → p.commits < 18446744073709551615 → IsAfter place name p cs → is_some o ≡ true
      → Answers (world_of name cs) c o (Stands place (arc_value q.engine)) → true ≡ option_map_or is_accepted o false → q.commits ≡ p.commits + 1 → Written place name cs seat c o q
  accepted name p q cs seat c None room at whole did accepts count = absurd cc
  accepted name p q cs seat c (Some a) room at whole did accepts count =
      let reply : a ≡ write_reply name cs c = did.0 ∙ sym (replied name p cs c room at) in
      let yes : is_accepted (write_reply name cs c) ≡ true = sym (accepts ∙ ap is_accepted reply) in
      let more : IsAfter place name q (cs ++ (seat, c) ∷ []) = record {
        engine = subst (Stands place (arc_value q.engine)) (sym (world_of-one name cs (seat, c))) did.1;
        commits = omega (arith, count, at.commits, length-append cs ((seat, c) ∷ []));
      } in
      (ap Some reply, rw yes more)

  -- a write that is accepted: `r` is the engine's reply `given`, which is complete, and the point `q` has the engine `e` after it
  pub one_more : (name : List ℕ) (p q : Point P) (cs : List Commit) (seat : ℕ) (c : Asked) (r given : Reply) (next : Option (P × StateView)) (now e : P × StateView)
      → p.commits < 18446744073709551615 → IsAfter place name p cs → (r ≡ given) × (is_some (reply_view r) ≡ true) → now ≡ arc_value p.engine → next ≡ Some e → arc_value q.engine ≡ e → q.commits ≡ p.commits + 1
      → ((w : World) → Stands place now w → Answers w c (reply_view given) (Stands place (unwrap_or next now))) → IsSettled given next → Written place name cs seat c (reply_view r) q
  one_more name p q cs seat c r given next now e room at whole before left kept count did settled =
      let start : Stands place now (world_of name cs) = rw before at.engine in
      let answers : Answers (world_of name cs) c (reply_view r) (Stands place (arc_value q.engine)) = rw (whole.0, kept) (rw left at (did (world_of name cs) start)) in
      let accepts : true ≡ option_map_or is_accepted (reply_view r) false = rw whole.0 (rw left at settled) in
      accepted name p q cs seat c (reply_view r) room at whole.1 answers accepts count

  -- the point after a write whose answer refuses it
  declined : (name : List ℕ) (p q : Point P) (cs : List Commit) (seat : ℕ) (c : Asked) (o : Option Answer) (ends : World → Type 0) → p.commits < 18446744073709551615 → IsAfter place name p cs → IsAfter place name q cs → is_some o ≡ true
      → Answers (world_of name cs) c o ends → false ≡ option_map_or is_accepted o false → Written place name cs seat c o q
  declined name p q cs seat c None ends room at again whole did refuses = absurd cc
  declined name p q cs seat c (Some a) ends room at again whole did refuses =
      let reply : a ≡ write_reply name cs c = did.0 ∙ sym (replied name p cs c room at) in
      let no : is_accepted (write_reply name cs c) ≡ false = sym (refuses ∙ ap is_accepted reply) in
      (ap Some reply, rw no again)

  -- a write that is refused: `r` is the engine's reply `given`, which is complete, and the point `q` has the same engine
  pub no_more : (name : List ℕ) (p q : Point P) (cs : List Commit) (seat : ℕ) (c : Asked) (r given : Reply) (next : Option (P × StateView)) (now : P × StateView)
      → p.commits < 18446744073709551615 → IsAfter place name p cs → (r ≡ given) × (is_some (reply_view r) ≡ true) → now ≡ arc_value p.engine → next ≡ None → arc_value q.engine ≡ arc_value p.engine → q.commits ≡ p.commits
      → ((w : World) → Stands place now w → Answers w c (reply_view given) (Stands place (unwrap_or next now))) → IsSettled given next → Written place name cs seat c (reply_view r) q
  no_more name p q cs seat c r given next now room at whole before left same count did settled =
      let start : Stands place now (world_of name cs) = rw before at.engine in
      let answers : Answers (world_of name cs) c (reply_view r) (Stands place now) = rw whole.0 (rw left at (did (world_of name cs) start)) in
      let refuses : false ≡ option_map_or is_accepted (reply_view r) false = rw whole.0 (rw left at settled) in
      let once_more : IsAfter place name q cs = record { engine = rw same at.engine; commits = count ∙ at.commits } in
      declined name p q cs seat c (reply_view r) (Stands place now) room at once_more whole.1 answers refuses

-- ---- the shards after a write

shards_after_all-one : (n : ℕ) (cs : List Asked) (c : Asked) → shards_after_all n (cs ++ c ∷ []) ≡ shards_after (shards_after_all n cs) c
shards_after_all-one n [] c = refl
shards_after_all-one n (d ∷ cs) c = shards_after_all-one (shards_after n d) cs c

-- the shards after one more commit
shards_of-one : (n : ℕ) (cs : List Commit) (p : Commit) → shards_of n (cs ++ p ∷ []) ≡ shards_after (shards_of n cs) p.1
shards_of-one n cs p = ap (shards_after_all n) (map-append (λ c. c.1) cs (p ∷ [])) ∙ shards_after_all-one n (commands_of cs) p.1

-- the shards after a write that is accepted, as in `one_more`
pub dealt_more : {P : Type 0} (name : List ℕ) (n : ℕ) (p : Point P) (q : P × StateView) (cs : List Commit) (seat : ℕ) (c : Asked) (r given : Reply) (next : Option (P × StateView)) (now e : P × StateView)
    → reply_view r ≡ Some (write_reply name cs c) → r ≡ given → now ≡ arc_value p.engine → next ≡ Some e → q ≡ e
    → IfSome (reply_view given) (λ _. shard_count (unwrap_or next now) ≡ shards_after (shard_count now) c) → IsSettled given next → HasShardsAfter n p cs → shard_count q ≡ shards_of n (after_write name cs seat c)
dealt_more name n p q cs seat c r given next now e is made before kept left deals settled at =
    let reply_is : reply_view given ≡ Some (write_reply name cs c) = rw made at is in
    let accepts : true ≡ option_map_or is_accepted (reply_view given) false = rw kept at settled in
    let yes : is_accepted (write_reply name cs c) ≡ true = sym (rw reply_is at accepts) in
    let count : shard_count e ≡ shards_after (shard_count now) c = rw (reply_is, kept) at deals in
    let one = shards_of-one n cs (seat, c) in
    rw (yes, one, left) (count ∙ ap (λ k. shards_after k c) (rw before at))

-- the shards after a write that is refused
pub dealt_same : {P : Type 0} (name : List ℕ) (n : ℕ) (p : Point P) (q : P × StateView) (cs : List Commit) (seat : ℕ) (c : Asked) (r given : Reply) (next : Option (P × StateView))
    → reply_view r ≡ Some (write_reply name cs c) → r ≡ given → next ≡ None → q ≡ arc_value p.engine → IsSettled given next → HasShardsAfter n p cs → shard_count q ≡ shards_of n (after_write name cs seat c)
dealt_same name n p q cs seat c r given next is made left same settled at =
    let reply_is : reply_view given ≡ Some (write_reply name cs c) = rw made at is in
    let refuses : false ≡ option_map_or is_accepted (reply_view given) false = rw left at settled in
    let no : is_accepted (write_reply name cs c) ≡ false = sym (rw reply_is at refuses) in
    rw (no, same) at

-- ---- the points of all seats

pub after_set : (name : List ℕ) (ps : List (Point Md5Placement)) (css : List (List Commit)) (seat : ℕ) (p : Point Md5Placement) (cs : List Commit) → AreAfter name ps css → IsAfter by_md5 name p cs → AreAfter name (slice_set ps seat p) (slice_set css seat cs)
after_set name [] [] seat p cs h a = tt
after_set name [] (d ∷ css) seat p cs h a = absurd h
after_set name (q ∷ ps) [] seat p cs h a = absurd h
after_set name (q ∷ ps) (d ∷ css) zero p cs h a = (a, h.1)
after_set name (q ∷ ps) (d ∷ css) (suc n) p cs h a = (h.0, after_set name ps css n p cs h.1 a)

pub after_get : (name : List ℕ) (ps : List (Point Md5Placement)) (css : List (List Commit)) (seat : ℕ) (d : Point Md5Placement) → AreAfter name ps css → seat < length ps → IsAfter by_md5 name (get_or ps seat d) (unwrap_or (slice_get css seat) [])
after_get name [] css seat d h at = absurd (omega (arith, at))
after_get name (q ∷ ps) [] seat d h at = absurd h
after_get name (q ∷ ps) (c ∷ css) zero d h at = h.0
after_get name (q ∷ ps) (c ∷ css) (suc n) d h at = after_get name ps css n d h.1 (omega (arith, at))

-- the points of all seats, if a seat has seen nothing more
pub after_same : (name : List ℕ) (ps : List (Point Md5Placement)) (css : List (List Commit)) (seat : ℕ) → AreAfter name ps css → AreAfter name ps (slice_set css seat (unwrap_or (slice_get css seat) []))
after_same name [] [] seat h = tt
after_same name [] (d ∷ css) seat h = absurd h
after_same name (q ∷ ps) [] seat h = absurd h
after_same name (q ∷ ps) (d ∷ css) zero h = h
after_same name (q ∷ ps) (d ∷ css) (suc n) h = (h.0, after_same name ps css n h.1)

pub after_copies : (name : List ℕ) (ps : List (Point Md5Placement)) (n : ℕ) (cs : List Commit) → All (λ p. IsAfter by_md5 name p cs) ps → length ps ≡ n → AreAfter name ps (replicate n cs)
after_copies name [] zero cs h e = tt
after_copies name [] (suc n) cs h e = absurd (omega (arith, e))
after_copies name (p ∷ ps) zero cs h e = absurd (omega (arith, e))
after_copies name (p ∷ ps) (suc n) cs h e = (h 0 p (omega arith), after_copies name ps n cs (λ k d lt. h (suc k) d (omega (arith, lt))) (omega (arith, e)))

-- ---- the seats

-- a seat has now seen these commits
moved : (name : List ℕ) (s t : Seats) (m : Machine) (seat : ℕ) (p : Point Md5Placement) (cs : List Commit) → SeatsStandFor name s m → t.latest ≡ s.latest → t.each.items ≡ slice_set s.each.items seat p → IsAfter by_md5 name p cs → SeatsStandFor name t (with_seen m seat cs)
moved name s t m seat p cs f latest each at = record {
  latest = subst (λ (x : Point Md5Placement). IsAfter by_md5 name x m.commits) (sym latest) f.latest;
  each = subst (λ (ps : List (Point Md5Placement)). AreAfter name ps (slice_set m.seen seat cs)) (sym each) (after_set name s.each.items m.seen seat p cs f.each at);
}

-- the seats after one of them catches up
pub looks : (name : List ℕ) (s t : Seats) (m : Machine) (seat : ℕ) (p : Point Md5Placement) → SeatsStandFor name s m → t.latest ≡ s.latest → t.each.items ≡ slice_set s.each.items seat p
    → ((n : List ℕ) (cs : List Commit) → IsAfter by_md5 n s.latest cs → IsAfter by_md5 n p cs) → SeatsStandFor name t (entered m seat)
looks name s t m seat p f latest each again = moved name s t m seat p m.commits f latest each (again name m.commits f.latest)

-- the point of a seat stands after what the seat has seen
pub at_seat : (name : List ℕ) (s : Seats) (m : Machine) (seat : ℕ) (p : Point Md5Placement) → SeatsStandFor name s m → seat < length s.each.items → p ≡ get_or s.each.items seat p → IsAfter by_md5 name p (seen_by m seat)
at_seat name s m seat p f here is = subst (λ (x : Point Md5Placement). IsAfter by_md5 name x (seen_by m seat)) (sym is) (after_get name s.each.items m.seen seat p f.each here)

-- the seats after one of them learns of more than it has seen
pub hears : (name : List ℕ) (s t : Seats) (m : Machine) (seat by : ℕ) (p q r next : Point Md5Placement) → SeatsStandFor name s m → seat < length s.each.items → by < length s.each.items
    → p ≡ get_or s.each.items seat p → q ≡ get_or s.each.items by q → r ≡ get_or s.each.items by r → p.commits < q.commits → t.latest ≡ s.latest → t.each.items ≡ slice_set s.each.items seat next
    → ((n : List ℕ) (cs : List Commit) → IsAfter by_md5 n r cs → IsAfter by_md5 n next cs) → SeatsStandFor name t (with_seen m seat (longer_of (seen_by m seat) (seen_by m by)))
hears name s t m seat by p q r next f here there is other same more latest each again =
    let old = at_seat name s m seat p f here is in
    let new = at_seat name s m by q f there other in
    let longer : nat_lt (length (seen_by m seat)) (length (seen_by m by)) ≡ true = grind (arith, nat_tests, more, old.commits, new.commits) in
    rw longer (moved name s t m seat next (seen_by m by) f latest each (again name (seen_by m by) (at_seat name s m by r f there same)))

-- the seats after one of them learns of no more than it has seen
pub stays : (name : List ℕ) (s : Seats) (m : Machine) (seat by : ℕ) (p q : Point Md5Placement) → SeatsStandFor name s m → seat < length s.each.items → by < length s.each.items
    → p ≡ get_or s.each.items seat p → q ≡ get_or s.each.items by q → q.commits ≤ p.commits → SeatsStandFor name s (with_seen m seat (longer_of (seen_by m seat) (seen_by m by)))
stays name s m seat by p q f here there is other more =
    let old = at_seat name s m seat p f here is in
    let new = at_seat name s m by q f there other in
    let longer : nat_lt (length (seen_by m seat)) (length (seen_by m by)) ≡ false = grind (arith, nat_tests, more, old.commits, new.commits) in
    rw longer (record { latest = f.latest; each = after_same name s.each.items m.seen seat f.each })

-- the seats after a write, before its seat catches up
pub wrote : (name : List ℕ) (s t : Seats) (m : Machine) (cs : List Commit) → SeatsStandFor name s m → IsAfter by_md5 name t.latest cs → t.each ≡ s.each → SeatsStandFor name t (record m { commits = cs })
wrote name s t m cs f at each = record {
  latest = at;
  each = rw each f.each;
}
