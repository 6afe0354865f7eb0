-- What is published, and how a write changes it.
use Rattle.std.proofs.Common.{◌≡◌, ◌≢◌, ℕ, ◌+◌, Bool, true, false, List, [], ◌∷◌, ◌++◌, inl, inr, Option, Some, None, MatchOption, length, refl, ap, sym, ◌∙◌, subst, arith}
use Rattle.std.proofs.lemmas.List.{length-map, map-append}
use Rattle.std.proofs.lemmas.Bool.Decides.{nat_tests}
use Rattle.logbook.specs.Pages.{Book}
use Rattle.mg_engine.specs.Commands.{Asked, Answer, refused}
use Rattle.mg_engine.specs.Settled.{accepts, is_accepted}
use Rattle.mg_engine.specs.View.{command_view, reply_view}
use Rattle.mg_engine.specs.declared.command.Command.{Command}
use Rattle.mg_engine.specs.declared.refusal.Refusal.TheVariants.{TooLarge}
use Rattle.mg_engine.specs.declared.reply.Reply.{Reply}
use Rattle.mg_machine.specs.Laws.{IsPrefix}
use Rattle.mg_machine.specs.Machine.{Commit, after_write, are_full, write_reply}
use Rattle.mg_machine.specs.Points.{IsAfter, HasShardsAfter}
use Rattle.mg_live.specs.Published.{Publishes, Standing, WriteLeaves}
use Rattle.mg_live.specs.Snapshots.{StandsAfter, IsSnapshotOf, commits_of}
use Rattle.mg_live.specs.SeatView.{IsLater, Learned, SeatView, SeatWrites}
use Rattle.mg_live.specs.Rules.{log_entry}
use Rattle.mg_live.specs.View.{commit_view, commits_view}
use Rattle.mg_live.specs.declared.commit_log.Prefix.{Prefix}
use Rattle.mg_live.specs.declared.markers.Entry.{Entry}
use Rattle.mg_machine.specs.declared.point.Point.{Point}
use Rattle.mg_live.specs.declared.snapshot.Snapshot.{Snapshot}
use Rattle.mg_machine.proofs.Beginnings.{itself, two}
use Rattle.mg_live.proofs.Prefixes.{longer_second}

-- a snapshot of this database stands after its own commits
pub stands_after : {P : Type 0} {place : P → List ℕ → ℕ → ℕ} (book : Book) (name : List ℕ) (opened : ℕ) (s : Snapshot P) → IsSnapshotOf place book name opened s → StandsAfter place name opened s (commits_of s)
stands_after book name opened s is = record { commits = refl; stands = is.after.engine; shards = is.dealt; number = is.after.commits }

-- ---- a write

-- whether the reply to a write accepts it
answered : (r : Reply) (a : Answer) (b : Bool) → reply_view r ≡ Some a → accepts r ≡ b → is_accepted a ≡ b
answered r a b is accepts = rw is at accepts

pub refused_write : (name : List ℕ) (cs : List Commit) (seat : ℕ) (c : Asked) (r : Reply) → reply_view r ≡ Some (write_reply name cs c) → accepts r ≡ false → WriteLeaves name cs (seat, c) (reply_view r) None
refused_write name cs seat c r is denied =
    let refuses : is_accepted (write_reply name cs c) ≡ false = answered r (write_reply name cs c) false is denied in
    rw is (refl, refuses)

-- if a write is accepted, there was room for one more commit
free : (name : List ℕ) (cs : List Commit) (c : Asked) → is_accepted (write_reply name cs c) ≡ true → are_full cs ≡ false
free name cs c t = elim (two (are_full cs)) [
  | inl full ↦ absurd (let no : is_accepted (refused TooLarge) ≡ true = rw full at t in cc)
  | inr room ↦ room
]

pub room_for : (name : List ℕ) (cs : List Commit) (c : Asked) → is_accepted (write_reply name cs c) ≡ true → length cs ≢ 18446744073709551615
room_for name cs c t = let no = free name cs c t in grind (arith, nat_tests, no)

pub has_room : (name : List ℕ) (log : List Entry) (c : Asked) (r : Reply) → reply_view r ≡ Some (write_reply name (commits_view log) c) → accepts r ≡ true → length log ≢ 18446744073709551615
has_room name log c r is taken =
    let cs = commits_view log in
    subst (λ (n : ℕ). n ≢ 18446744073709551615) (length-map log commit_view) (room_for name cs c (answered r (write_reply name cs c) true is taken))

-- the commits after an accepted write
pub more : (log after : List Entry) (seat : ℕ) (c : Command) (next : ℕ) → after ≡ log ++ log_entry seat c next ∷ [] → commits_view after ≡ commits_view log ++ (seat, command_view c) ∷ []
more log after seat c next is = ap commits_view is ∙ map-append commit_view log (log_entry seat c next ∷ [])

pub one_more : (name : List ℕ) (log after : List Entry) (seat : ℕ) (c : Command) (next : ℕ) (r : Reply) → reply_view r ≡ Some (write_reply name (commits_view log) (command_view c)) → accepts r ≡ true → after ≡ log ++ log_entry seat c next ∷ []
    → WriteLeaves name (commits_view log) (seat, command_view c) (reply_view r) (Some (commits_view after))
one_more name log after seat c next r is taken added =
    let cs = commits_view log in
    let accepted : is_accepted (write_reply name cs (command_view c)) ≡ true = answered r (write_reply name cs (command_view c)) true is taken in
    rw is (refl, accepted, more log after seat c next added)

-- the point after an accepted write
pub there : {P : Type 0} {place : P → List ℕ → ℕ → ℕ} (name : List ℕ) (log after : List Entry) (seat : ℕ) (c : Command) (next : ℕ) (r : Reply) (p : Point P) → reply_view r ≡ Some (write_reply name (commits_view log) (command_view c)) → accepts r ≡ true → after ≡ log ++ log_entry seat c next ∷ []
    → IsAfter place name p (after_write name (commits_view log) seat (command_view c)) → IsAfter place name p (commits_view after)
there {place = place} name log after seat c next r p is taken added at =
    let cs = commits_view log in
    let accepted : is_accepted (write_reply name cs (command_view c)) ≡ true = answered r (write_reply name cs (command_view c)) true is taken in
    let now : IsAfter place name p (cs ++ (seat, command_view c) ∷ []) = rw accepted at at in
    subst (λ (ds : List Commit). IsAfter place name p ds) (sym (more log after seat c next added)) now

-- the shards after an accepted write
pub dealt : {P : Type 0} (name : List ℕ) (opened : ℕ) (log after : List Entry) (seat : ℕ) (c : Command) (next : ℕ) (r : Reply) (p : Point P) → reply_view r ≡ Some (write_reply name (commits_view log) (command_view c)) → accepts r ≡ true → after ≡ log ++ log_entry seat c next ∷ []
    → HasShardsAfter opened p (after_write name (commits_view log) seat (command_view c)) → HasShardsAfter opened p (commits_view after)
dealt name opened log after seat c next r p is taken added at =
    let cs = commits_view log in
    let accepted : is_accepted (write_reply name cs (command_view c)) ≡ true = answered r (write_reply name cs (command_view c)) true is taken in
    let now : HasShardsAfter opened p (cs ++ (seat, command_view c) ∷ []) = rw accepted at at in
    subst (λ (ds : List Commit). HasShardsAfter opened p ds) (sym (more log after seat c next added)) now

-- the commits after a write that leaves a snapshot
pub added : (name : List ℕ) (cs : List Commit) (write : Commit) (o : Option Answer) (new : List Commit) → WriteLeaves name cs write o (Some new) → new ≡ cs ++ write ∷ []
added name cs write None new h = absurd h
added name cs write (Some a) new h = h.2

-- what an accepted write does to the published commits, to what its seat has seen, and to the seat's tally
pub published : (name : List ℕ) (write : Commit) (old new : Standing) (o : Option Answer) → IsPrefix old.seen old.published → WriteLeaves name old.published write o (Some new.published) → new.seen ≡ new.published
    → new.tally ≡ old.tally + 1 → Publishes name write old o new
published name write old new None later h seen tally = absurd h
published name write old new (Some a) later h seen tally =
    let yes : is_accepted (write_reply name old.published write.1) ≡ true = rw h.0 at h.1 in
    record { later = later; answer = h.0; published = rw yes h.2; seen = seen; tally = rw h.1 tally }

-- what a write that is not accepted does to what its seat has seen
pub left : (name : List ℕ) (write : Commit) (old : Standing) (o : Option Answer) (was shown new : Prefix) (after : List Commit) → after ≡ old.published → commits_view shown.seen.log ≡ old.published → IsPrefix old.seen old.published
    → WriteLeaves name old.published write o None → old.seen ≡ commits_view was.seen.log → MatchOption o (new ≡ was) (λ a. new ≡ shown)
    → Publishes name write old o (record { published = after; seen = commits_view new.seen.log; tally = old.tally })
left name write old None was shown new after same now later h seen at =
    ap (λ (cs : List Commit). record old { published = cs; seen = commits_view new.seen.log }) same
    ∙ ap (λ (cs : List Commit). record old { seen = cs }) (ap (λ (f : Prefix). commits_view f.seen.log) at ∙ sym seen)
left name write old (Some a) was shown new after same now later h seen at =
    let no : is_accepted (write_reply name old.published write.1) ≡ false = rw h.0 at h.1 in
    let stays : old.published ≡ after_write name old.published write.0 write.1 = rw no refl in
    record {
      later = later;
      answer = h.0;
      published = same ∙ stays;
      seen = ap (λ (f : Prefix). commits_view f.seen.log) at ∙ now ∙ sym same;
      tally = rw h.1 refl;
    }

-- a write as its seat sees it
pub wrote : (name : List ℕ) (old : SeatView) (cs : List Commit) (c : Asked) (o : Option Answer) (new : Standing) → Publishes name (old.number, c) (record { published = cs; seen = old.seen; tally = old.tally }) o new
    → SeatWrites name old c o (record { number = old.number; seen = new.seen; tally = new.tally })
wrote name old cs c None new p = ap (λ (s : Standing). record { number = old.number; seen = s.seen; tally = s.tally }) p
wrote name old cs c (Some a) new p = record { commits = cs; later = p.later; answer = p.answer; seen = p.seen ∙ p.published; tally = p.tally; number = refl }

-- a seat that has not changed is later than itself
pub later_same : (s : SeatView) → IsLater s s
later_same s = record { number = refl; seen = itself s.seen; tally = refl }

-- ---- learning

-- a seat that learns a list, of which it has seen a prefix, has then seen that list
pub learned : (old : SeatView) (heard : List Commit) → IsPrefix old.seen heard → Learned old heard (record old { seen = heard })
learned old heard p = record { longer = longer_second old.seen heard p; own = p; other = itself heard; number = refl; tally = refl }
