-- A session that is under way, and how it ends.
use Rattle.std.proofs.Common.{◌≡◌, ◌⊎◌, ℕ, ◌+◌, ◌≤◌, List, length, Option, Some, None, refl, sym, ap, ◌∙◌, subst, arith, inl, inr, length-append}
use Rattle.std.specs.Io.KnownBytes.{Appends, Consumes}
use Rattle.std.proofs.KnownBytes.{Consumes-trans, Appends-trans}
use Rattle.mg_engine.specs.Commands.{Asked, Answer}
use Rattle.mg_server.specs.Turns.{HasWrote}
use Rattle.mg_http.specs.declared.sessions.SessionEnd.{SessionEnd}
use Rattle.mg_http.specs.declared.sessions.SessionEnd.TheVariants as session
use Rattle.mg_http.specs.declared.sessions.connection.Connection.{Connection}
use Rattle.mg_http.specs.declared.sessions.connection.Ending.{Ending}
use Rattle.mg_http.specs.declared.sessions.connection.Ending.TheVariants.{Limit}
use Rattle.mg_http.specs.Connection.{received, sent, Told, IsReady, IsQuiet, Runs, Transfers, Rests, EndsBy}
use Rattle.mg_http.specs.Session.{Converses}
use Rattle.mg_http.specs.Transcript.{WroteTranscript}
use Rattle.mg_http.proofs.Forms.{course, exchange}
use Rattle.mg_http.proofs.ToldLemmas.{some_none, told_ready, told_runs, told_transfers, session_ends, limit_reached}
use Rattle.mg_http.proofs.TranscriptLemmas.{holds}

-- The connection was told right, of all that the reader gave and the writer took. Each counted read gave at least one byte.
pub record IsUnderWay
    {S : Type 0} (answers : S → Asked → Option Answer → S → Type 0) (db : List ℕ) (r r' w w' : Option (List ℕ)) (from : S) (c : Connection) (s : S) (reads : ℕ) : Type 0 where
  pub told : Told answers from c s
  pub db_is : c.db.now ≡ db
  pub input : Consumes r r' (received c)
  pub output : Appends w w' (sent c)
  pub count : reads ≤ length (received c)

-- the limit was reached: by messages, or by reads
pub limit_after : (c d : Connection) (came : List ℕ) (reads : ℕ) → Transfers c d came → reads ≤ length (received c) → (c.end ≡ Some Limit) ⊎ (reads ≡ 4294967295)
    → (d.end ≡ Some Limit) ⊎ (4294967295 ≤ length (received d))
limit_after c d came reads moved few (inl is) = inl (moved.end ∙ is)
limit_after c d came reads moved few (inr all) = inr (omega (arith, all, few, ap length moved.came, length-append (received c) came))

module _ {S : Type 0} (answers : S → Asked → Option Answer → S → Type 0) (db : List ℕ) (from : S) where
  -- the connection answered what it had received
  answered_at : (end : Option Ending) (r r' w w' : Option (List ℕ)) (c : Connection) (s : S) (d : Connection) (t : S) (reads : ℕ) → c.end ≡ end → IsUnderWay answers db r r' w w' from c s reads
      → IsQuiet c d → (IsReady c → Runs answers c s d t) → ((¬ (c.end ≡ None)) → (d ≡ c) × (t ≡ s)) → IsUnderWay answers db r r' w w' from d t reads
  answered_at None r r' w w' c s d t reads is h quiet runs stays = record {
    told = told_runs answers from c s d t is quiet h.told (runs (told_ready answers from c s is h.told));
    db_is = rw quiet.db h.db_is;
    input = rw quiet.reads h.input;
    output = rw quiet.writes h.output;
    count = rw quiet.reads h.count;
  }
  answered_at (Some ending) r r' w w' c s d t reads is h quiet runs stays = let k = stays (λ e. some_none ending (sym is ∙ e)) in rw (k.0, k.1) h

  pub answered_on : (r r' w w' : Option (List ℕ)) (c : Connection) (s : S) (d : Connection) (t : S) (reads : ℕ) → IsUnderWay answers db r r' w w' from c s reads → IsQuiet c d
      → (IsReady c → Runs answers c s d t) → ((¬ (c.end ≡ None)) → (d ≡ c) × (t ≡ s)) → IsUnderWay answers db r r' w w' from d t reads
  answered_on r r' w w' c s d t reads = answered_at c.end r r' w w' c s d t reads refl

  -- it has room only if it rests
  rests_at : (end : Option Ending) (c : Connection) (s : S) (d : Connection) (t : S) → c.end ≡ end → Told answers from c s → (IsReady c → Rests d)
      → ((¬ (c.end ≡ None)) → (d ≡ c) × (t ≡ s)) → Rests d
  rests_at None c s d t is told rests stays = rests (told_ready answers from c s is told)
  rests_at (Some ending) c s d t is told rests stays =
      let k = stays (λ e. some_none ending (sym is ∙ e)) in
      λ goes_on room. absurd (some_none ending (sym is ∙ ap (λ (x : Connection). x.end) (sym k.0) ∙ goes_on))

  pub rests_on : (c : Connection) (s : S) (d : Connection) (t : S) → Told answers from c s → (IsReady c → Rests d) → ((¬ (c.end ≡ None)) → (d ≡ c) × (t ≡ s)) → Rests d
  rests_on c s d t = rests_at c.end c s d t refl

  -- bytes came or went
  pub exchanged : (r0 r1 r2 w0 w1 w2 : Option (List ℕ)) (c : Connection) (s : S) (d : Connection) (reads after : ℕ) (came : List ℕ) → IsUnderWay answers db r0 r1 w0 w1 from c s reads
      → Consumes r1 r2 came → Transfers c d came → after ≤ reads + length came → HasWrote w1 w2 (sent c) (sent d) → IsUnderWay answers db r0 r2 w0 w2 from d s after
  exchanged r0 r1 r2 w0 w1 w2 c s d reads after came h read moved few wrote = record {
    told = told_transfers answers from c s d came moved h.told;
    db_is = rw moved.db h.db_is;
    input = rw moved.came (Consumes-trans r0 r1 r2 (received c) came h.input read);
    output = rw wrote.2 (Appends-trans w0 w1 w2 (sent c) wrote.0 h.output wrote.1);
    count = rw moved.came (omega (arith, few, h.count, length-append (received c) came));
  }

  -- the session ends
  pub ends_so : (r r' w w' : Option (List ℕ)) (c : Connection) (s : S) (reads : ℕ) (end : SessionEnd) → IsUnderWay answers db r r' w w' from c s reads → EndsBy c end
      → (end ≡ session.Limit → (c.end ≡ Some Limit) ⊎ (4294967295 ≤ length (received c)))
      → WroteTranscript answers db (course (Consumes r r') (Appends w w') c.is_starved from s end)
  ends_so r r' w w' c s reads end h ends limit =
      let all : Converses answers db c.is_starved end (exchange from (received c) (sent c) s) =
      subst (λ (d : List ℕ). Converses answers d c.is_starved end (exchange from (received c) (sent c) s)) h.db_is (session_ends answers from c s h.told end ends) in
      holds answers db (Consumes r r') (Appends w w') c.is_starved from s end (received c) (sent c) h.input h.output all (limit_reached answers from c s h.told end limit)
