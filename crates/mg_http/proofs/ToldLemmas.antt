-- What is told of a connection stays true when it answers, receives and sends.
use Rattle.std.proofs.Common.{◌≡◌, ◌⊎◌, ℕ, ◌+◌, ◌≤◌, List, [], ◌∷◌, ◌++◌, length, drop, Option, Some, None, refl, sym, ap, ◌∙◌, append_assoc, append-nil, arith, length-append, inl, inr, cond, Bool, true, false}
use Rattle.std.specs.Prelude.{slice_range, IsTrue, IsFalse}
use Rattle.mg_engine.specs.Commands.{Asked, Answer}
use Rattle.mg_http.specs.declared.request.head.Framed.{Framed}
use Rattle.mg_http.specs.declared.request.head.Pending.TheVariants as pending
use Rattle.mg_http.specs.declared.sessions.SessionEnd.{SessionEnd}
use Rattle.mg_http.specs.declared.sessions.SessionEnd.TheVariants as session
use Rattle.mg_http.specs.declared.sessions.connection.Connection.{Connection}
use Rattle.mg_http.specs.declared.sessions.connection.Ending.{Ending}
use Rattle.mg_http.specs.declared.sessions.connection.Ending.TheVariants.{Closed, Refused, Limit}
use Rattle.mg_http.specs.Connection.{unanswered, received, sent, waiting, said, end_of, IsKept, Stands, progress, Counts, Told, AnswersMet, ToldMet, IsReady, IsQuiet, Runs, Transfers, GoesOnUnlessStarved, Rests, EndsBy}
use Rattle.mg_http.specs.Message.{IsWaiting}
use Rattle.mg_http.specs.Reply.{reply_text}
use Rattle.mg_http.specs.Session.{Handles, IsRefusalText, IsSessionEnd, IsWritten, Converses}
use Rattle.mg_http.specs.Steps.{request_in, IsPending}
use Rattle.mg_http.specs.Transcript.{IsAtLimit}
use Rattle.mg_http.proofs.Forms.{exchange, handling}
use Rattle.mg_http.proofs.OutputLemmas.{room_if_sent}
use Rattle.mg_http.proofs.SessionLemmas.{counts_then, answered_counts, ends_at, stands_then, stands_more, answered}
use Rattle.mg_http.proofs.StandingLemmas.{served, converses}
use Rattle.mg_server.specs.Meeting.{Meets}

pub some_none : (ending : Ending) → Some ending ≡ None → ⊥
some_none ending e = cc

counts_more : (end : Option Ending) (n m : ℕ) (left more bytes : List ℕ) → n ≡ length bytes → Counts end n (m + length left) → Counts end (length (bytes ++ more)) (m + length (left ++ more))
counts_more None n m left more bytes is k = omega (arith, is, k, length-append bytes more, length-append left more)
counts_more (Some Closed) n m left more bytes is k = tt
counts_more (Some Refused) n m left more bytes is k = tt
counts_more (Some Limit) n m left more bytes is k = omega (arith, is, k, length-append bytes more)

-- a connection that waited, or ended for want of memory, rests
pub rests_wait : (omits_body : Bool) (d e : Connection) → GoesOnUnlessStarved omits_body d e → IsWaiting d.db.now (unanswered d) → Rests e
rests_wait omits_body d e (inl (fed, went)) h = rw went (λ goes_on room. (h, fed))
rests_wait omits_body d e (inr (starved, only, said)) h = λ goes_on room. absurd (some_none Refused (sym (ap (λ (x : Connection). x.end) only) ∙ goes_on))

-- all that was received is answered, all answers are sent, and the last read got memory: this one, or the one before it
pub paused : (c d : Connection) (more : List ℕ) → Transfers c d more → length more ≡ 0 → c.end ≡ None → waiting c ≡ [] → waiting d ≡ [] → Rests c
    → IsFalse d.is_starved ⊎ (d.is_starved ≡ c.is_starved) → (d.end ≡ None) × (waiting d ≡ []) × IsWaiting d.db.now (unanswered d) × IsFalse d.is_starved
paused c d [] moved none is sent_before sent_now rests fed =
    let was = rests is (room_if_sent c.output sent_before) in
    let now : IsFalse d.is_starved = elim fed [ inl is ↦ is | inr same ↦ same ∙ was.1 ] in
    (moved.end ∙ is, sent_now, rw (moved.db, moved.left, append-nil (unanswered c)) was.0, now)
paused c d (x ∷ more) moved none is sent_before sent_now rests fed = absurd (omega (arith, none))

module _ {S : Type 0} (answers : S → Asked → Option Answer → S → Type 0) where
  -- a text was said, and then the connection goes on or has ended
  runs_to : (c d : Connection) (s t : S) (text : List ℕ) (end : Option Ending) → d.end ≡ end → waiting d ≡ waiting c ++ text
      → Stands answers c.db.now d.is_starved end (exchange s (unanswered c) text t) (unanswered d) d.framed → Counts end (progress c) (progress d) → Runs answers c s d t
  runs_to c d s t text end is waits stands counts = record { text = text; waits = waits; stands = rw is stands; counts = rw is counts }

  -- the connection ends with a last text
  pub runs_out : (c d : Connection) (s : S) (text : List ℕ) → d.end ≡ Some Refused → waiting d ≡ waiting c ++ text
      → IsRefusalText c.db.now d.is_starved (unanswered c) text → Runs answers c s d s
  runs_out c d s text is waits refuses =
      runs_to c d s s text (Some Refused) is waits (ends_at answers c.db.now s (unanswered c) text s d.is_starved session.Refused (refuses, refl) refl) tt

  pub runs_to_limit : (c d : Connection) (s : S) → d.end ≡ Some Limit → waiting d ≡ waiting c → 4294967295 ≤ c.messages → Runs answers c s d s
  runs_to_limit c d s is waits many =
      runs_to c d s s [] (Some Limit) is (waits ∙ sym (append-nil (waiting c))) (ends_at answers c.db.now s (unanswered c) [] s d.is_starved session.Limit (refl, refl) refl) (omega (arith, many))

  -- the connection read a head, and goes on
  runs_on : (c d : Connection) (s : S) → d.end ≡ None → waiting d ≡ waiting c → unanswered d ≡ unanswered c → progress d ≡ progress c
      → IsKept c.db.now (unanswered d) d.framed → Runs answers c s d s
  runs_on c d s is waits same count kept =
      runs_to c d s s [] None is (waits ∙ sym (append-nil (waiting c))) (([], (sym same, refl, refl)), kept) (omega (arith, count))

  -- the connection waits for more bytes, or ends for want of memory
  pub runs_wait : (c d e : Connection) (s : S) (omits_body : Bool) → d.end ≡ None → waiting d ≡ waiting c → unanswered d ≡ unanswered c → progress d ≡ progress c
      → IsKept c.db.now (unanswered d) d.framed → ((starved : Bool) → IsTrue starved → IsRefusalText c.db.now starved (unanswered c) (reply_text omits_body None))
      → GoesOnUnlessStarved omits_body d e → Runs answers c s e s
  runs_wait c d e s omits_body is waits same count kept lacks (inl (fed, went)) = rw went (runs_on c d s is waits same count kept)
  runs_wait c d e s omits_body is waits same count kept lacks (inr (starved, only, text)) =
      runs_out c e s (reply_text omits_body None) (ap (λ (x : Connection). x.end) only) (text ∙ ap (λ (w : List ℕ). w ++ reply_text omits_body None) waits)
      (lacks e.is_starved (ap (λ (x : Connection). x.is_starved) only ∙ starved))

  -- the connection answered a message
  pub runs_answer : (c d : Connection) (s t : S) (f : Framed) (reply : Option Answer) (end : ℕ) → IsPending c.db.now (unanswered c) (pending.Head f) → end ≡ f.head_len + f.body_len
      → end ≤ length (unanswered c) → Handles answers (request_in f.request) (slice_range (unanswered c) f.head_len end) (handling s reply t) → d.end ≡ cond f.closes (Some Closed) None
      → waiting d ≡ waiting c ++ reply_text f.omits_body reply → unanswered d ≡ drop end (unanswered c) → d.framed ≡ None → d.messages ≡ c.messages + 1 → Runs answers c s d t
  runs_answer c d s t f reply end head is whole handled closes waits left none messages =
      let long : f.head_len + f.body_len ≤ length (unanswered c) = rw is at whole in
      record {
        text = reply_text f.omits_body reply;
        waits = waits;
        stands = rw (left, none, is) (answered answers c.db.now s (unanswered c) f reply t d.is_starved d.end head long (rw is at handled) closes);
        counts = rw (messages, left, is) (answered_counts c.db.now (unanswered c) f c.messages d.end head long closes);
      }

  -- what such a connection said, if it goes on or has ended
  runs_at : (end : Option Ending) (a b : Connection) (s t : S) → b.end ≡ end → (h : Runs answers a s b t)
      → Stands answers a.db.now b.is_starved end (exchange s (unanswered a) h.text t) (unanswered b) b.framed × Counts end (progress a) (progress b)
  runs_at end a b s t is h = (rw is at h.stands, rw is at h.counts)

  -- some answers, and then others
  runs_then : (a b c : Connection) (s t u : S) → b.end ≡ None → b.db ≡ a.db → Runs answers a s b t → Runs answers b t c u → Runs answers a s c u
  runs_then a b c s t u goes_on db h k =
      let first = runs_at None a b s t goes_on h in
      record {
        text = h.text ++ k.text;
        waits = k.waits ∙ ap (λ (x : List ℕ). x ++ k.text) h.waits ∙ append_assoc (waiting a) h.text k.text;
        stands = stands_then answers a.db.now c.is_starved c.end s (unanswered a) first.0.0.0 h.text (unanswered b) t k.text u (unanswered c) c.framed first.0.0.1 (rw db at k.stands);
        counts = counts_then c.end (progress a) (progress b) (progress c) first.1 k.counts;
      }

  ready_then : (a b : Connection) (s t : S) → b.end ≡ None → b.db ≡ a.db → Runs answers a s b t → IsReady b
  ready_then a b s t goes_on db h = (goes_on, rw db (runs_at None a b s t goes_on h).0.1)

  -- one more step of a connection
  step_at : (end : Option Ending) (a b c : Connection) (s t u : S) → b.end ≡ end → b.db ≡ a.db → Runs answers a s b t → (IsReady b → Runs answers b t c u)
      → ((¬ (b.end ≡ None)) → (c ≡ b) × (u ≡ t)) → Runs answers a s c u
  step_at None a b c s t u is db h runs stays = runs_then a b c s t u is db h (runs (ready_then a b s t is db h))
  step_at (Some ending) a b c s t u is db h runs stays = let k = stays (λ e. some_none ending (sym is ∙ e)) in rw (k.0, k.1) h

  pub runs_step : (a b c : Connection) (s t u : S) → b.db ≡ a.db → Runs answers a s b t → (IsReady b → Runs answers b t c u)
      → ((¬ (b.end ≡ None)) → (c ≡ b) × (u ≡ t)) → Runs answers a s c u
  runs_step a b c s t u = step_at b.end a b c s t u refl

  -- ---- from the beginning

  told_at : (end : Option Ending) (from : S) (c : Connection) (now : S) → c.end ≡ end → Told answers from c now
      → Stands answers c.db.now c.is_starved end (exchange from (received c) (said c) now) (unanswered c) c.framed × Counts end (length (received c)) (progress c)
  told_at end from c now is h = (rw is at h.stands, rw is at h.counts)

  pub told_ready : (from : S) (c : Connection) (now : S) → c.end ≡ None → Told answers from c now → IsReady c
  told_ready from c now is h = (is, (told_at None from c now is h).0.1)

  pub told_new : (c : Connection) (now : S) → received c ≡ [] → sent c ≡ [] → waiting c ≡ [] → unanswered c ≡ [] → c.end ≡ None → c.framed ≡ None → c.messages ≡ 0
      → Told answers now c now
  told_new c now came gone waits left is none few = record {
    stands = rw (is, came, gone, waits, left, none) (([], (refl, refl, refl)), tt);
    counts = rw is (omega (arith, few, ap length left, ap length came));
  }

  pub told_runs : (from : S) (c : Connection) (s : S) (d : Connection) (t : S) → c.end ≡ None → IsQuiet c d → Told answers from c s → Runs answers c s d t → Told answers from d t
  told_runs from c s d t goes_on quiet h k =
      let first = told_at None from c s goes_on h in
      let all = stands_then answers c.db.now d.is_starved d.end from (received c) first.0.0.0 (said c) (unanswered c) s k.text t (unanswered d) d.framed first.0.0.1 k.stands in
      record {
        stands = rw (quiet.db, quiet.reads, quiet.writes, k.waits, ← append_assoc (sent c) (waiting c) k.text) all;
        counts = rw quiet.reads (counts_then d.end (length (received c)) (progress c) (progress d) first.1 k.counts);
      }

  pub told_transfers : (from : S) (c : Connection) (s : S) (d : Connection) (more : List ℕ) → Transfers c d more → Told answers from c s → Told answers from d s
  told_transfers from c s d more t h = record {
    stands = rw (t.db, t.end, t.framed, t.came, t.left, t.says) (stands_more answers c.db.now c.is_starved d.is_starved c.end from (received c) (said c) s (unanswered c) c.framed more t.goes_on h.stands);
    counts = rw (t.end, t.messages, t.came, t.left) (counts_more c.end (length (received c)) c.messages (unanswered c) more (received c) refl h.counts);
  }

  -- ---- how a session ends

  -- the session wrote all that was said, or only what was sent of it
  all_sent : (bytes : List ℕ) (from s : S) (db : List ℕ) (starved : Bool) (end : SessionEnd) (gone waits : List ℕ) → waits ≡ []
      → Converses answers db starved end (exchange from bytes (gone ++ waits) s) → Converses answers db starved end (exchange from bytes gone s)
  all_sent bytes from s db starved end gone waits none h = rw (none, append-nil gone) at h

  cut_off : (bytes : List ℕ) (from s : S) (db : List ℕ) (starved : Bool) (ending : Ending) (gone waits : List ℕ)
      → Converses answers db starved (end_of ending) (exchange from bytes (gone ++ waits) s) → Converses answers db starved session.WriteFault (exchange from bytes gone s)
  cut_off bytes from s db starved Closed gone waits h =
      record { calls = h.calls; text = h.text; rest = h.rest; mid = h.mid; served = h.served; last = h.last; ended = inr (inl h.ended); written_is = (waits, h.written_is) }
  cut_off bytes from s db starved Refused gone waits h =
      record { calls = h.calls; text = h.text; rest = h.rest; mid = h.mid; served = h.served; last = h.last; ended = inr (inr h.ended); written_is = (waits, h.written_is) }
  cut_off bytes from s db starved Limit gone waits h =
      record { calls = h.calls; text = h.text; rest = h.rest; mid = h.mid; served = h.served; last = h.last; ended = inl h.ended; written_is = (waits, h.written_is) }

  -- the session stopped while the connection went on
  module _ (from : S) (c : Connection) (s : S) (h : Told answers from c s) where
    at_end : (end : Option Ending) → c.end ≡ end → Stands answers c.db.now c.is_starved end (exchange from (received c) (said c) s) (unanswered c) c.framed
    at_end end is = (told_at end from c s is h).0

    as_ended : (ending : Ending) → c.end ≡ Some ending → waiting c ≡ [] → Converses answers c.db.now c.is_starved (end_of ending) (exchange from (received c) (sent c) s)
    as_ended ending is none = all_sent (received c) from s c.db.now c.is_starved (end_of ending) (sent c) (waiting c) none (at_end (Some ending) is)

    whole : waiting c ≡ [] → sent c ≡ said c ++ []
    whole none = sym (append-nil (sent c)) ∙ ap (λ (w : List ℕ). sent c ++ w) (sym none) ∙ sym (append-nil (said c))

    -- the connection went on
    at_rest : (end : SessionEnd) → c.end ≡ None → IsSessionEnd answers c.db.now c.is_starved end (exchange s (unanswered c) [] s) → IsWritten end (sent c) (said c ++ [])
        → Converses answers c.db.now c.is_starved end (exchange from (received c) (sent c) s)
    at_rest end is ended written =
        let run = at_end None is in
        record { calls = run.0.0; text = said c; rest = unanswered c; mid = s; served = run.0.1; last = []; ended = ended; written_is = written }

    by_fault : (end : Option Ending) → c.end ≡ end → Converses answers c.db.now c.is_starved session.WriteFault (exchange from (received c) (sent c) s)
    by_fault None is = at_rest session.WriteFault is (inl (refl, refl)) (waiting c, sym (append-nil (said c)))
    by_fault (Some ending) is = cut_off (received c) from s c.db.now c.is_starved ending (sent c) (waiting c) (at_end (Some ending) is)

    pub session_ends : (end : SessionEnd) → EndsBy c end → Converses answers c.db.now c.is_starved end (exchange from (received c) (sent c) s)
    session_ends session.Eof e = at_rest session.Eof e.0 (e.2, (refl, refl), e.3) (whole e.1)
    session_ends session.ReadFault e = at_rest session.ReadFault e.0 (e.2, (refl, refl), e.3) (whole e.1)
    session_ends session.WriteFault e = by_fault c.end refl
    session_ends session.Closed e = as_ended Closed e.0 e.1
    session_ends session.Refused e = as_ended Refused e.0 e.1
    session_ends session.Limit (inl is, none) = at_rest session.Limit is (refl, refl) (whole none)
    session_ends session.Limit (inr is, none) = as_ended Limit is none

    pub limit_reached : (end : SessionEnd) → (end ≡ session.Limit → (c.end ≡ Some Limit) ⊎ (4294967295 ≤ length (received c))) → IsAtLimit end (received c)
    limit_reached session.Limit k =
        elim (k refl) [
          | inl is ↦ (told_at (Some Limit) from c s is h).1
          | inr many ↦ many
        ]
    limit_reached session.Eof k = tt
    limit_reached session.ReadFault k = tt
    limit_reached session.WriteFault k = tt
    limit_reached session.Closed k = tt
    limit_reached session.Refused k = tt

-- ---- a client that goes from service to service

module _ {S : Type 0} (follows : S → S → Type 0) (same : (a : S) → follows a a) (onward : (a b c : S) → follows a b → follows b c → follows a c) (moves : Bool) where
  pub met_same : (a : S) → Meets follows moves a a
  met_same a = elim moves as (λ m. Meets follows m a a) [ true ↦ same a | false ↦ refl ]

  pub met_then : (a b c : S) → Meets follows moves a b → Meets follows moves b c → Meets follows moves a c
  met_then a b c =
      elim moves as (λ m. Meets follows m a b → Meets follows m b c → Meets follows m a c) [
        | true ↦ λ p q. onward a b c p q
        | false ↦ λ p q. q ∙ p
      ]

module _ {S : Type 0} (meets : S → S → Type 0) (same : (a : S) → meets a a) (then : (a b c : S) → meets a b → meets b c → meets a c)
    (answers : S → Asked → Option Answer → S → Type 0) where
  answers_met : (old : S) (c : Asked) (r : Option Answer) (new w : S) → answers old c r new → meets w old → (u : S) × AnswersMet meets answers w c r u × meets u new
  answers_met old c r new w a m = (new, (old, m, a), same new)

  stands_met : (db : List ℕ) (starved : Bool) (end : Option Ending) (s : S) (bytes text : List ℕ) (t : S) (left : List ℕ) (framed : Option Framed) (w : S)
      → Stands answers db starved end (exchange s bytes text t) left framed → meets w s
      → (u : S) × Stands (AnswersMet meets answers) db starved end (exchange w bytes text u) left framed × meets u t
  stands_met db starved None s bytes text t left framed w h m =
      let k = served answers (AnswersMet meets answers) (λ x y. meets y x) db answers_met s bytes h.0.0 text left t w h.0.1 m in
      (k.0, ((h.0.0, k.1), h.1), k.2)
  stands_met db starved (Some ending) s bytes text t left framed w h m =
      converses answers (AnswersMet meets answers) (λ x y. meets y x) db answers_met s bytes text t starved (end_of ending) w h m

  runs_met : (c : Connection) (s : S) (d : Connection) (t w : S) → Runs answers c s d t → meets w s → (u : S) × Runs (AnswersMet meets answers) c w d u × meets u t
  runs_met c s d t w h m =
      let k = stands_met c.db.now d.is_starved d.end s (unanswered c) h.text t (unanswered d) d.framed w h.stands m in
      (k.0, record { text = h.text; waits = h.waits; stands = k.1; counts = h.counts }, k.2)

  -- the connection answered at a service that the client may meet
  met_at : (end : Option Ending) (from : S) (c : Connection) (s : S) (d : Connection) (t : S) → c.end ≡ end → IsQuiet c d → (IsReady c → Runs answers c s d t)
      → ((¬ (c.end ≡ None)) → (d ≡ c) × (t ≡ s)) → (last : S) → Told (AnswersMet meets answers) from c last → meets last s → ToldMet meets answers from d t
  met_at None from c s d t is quiet runs stays last told met =
      let k = runs_met c s d t last (runs (told_ready (AnswersMet meets answers) from c last is told)) met in
      record { last = k.0; told = told_runs (AnswersMet meets answers) from c last d k.0 is quiet told k.1; meeting = k.2 }
  met_at (Some ending) from c s d t is quiet runs stays last told met =
      let k = stays (λ e. some_none ending (sym is ∙ e)) in
      rw (k.0, k.1) (record { last = last; told = told; meeting = met })

  pub told_met : (from : S) (c : Connection) (now s : S) (d : Connection) (t : S) → IsQuiet c d → (IsReady c → Runs answers c s d t) → ((¬ (c.end ≡ None)) → (d ≡ c) × (t ≡ s))
      → ToldMet meets answers from c now → meets now s → ToldMet meets answers from d t
  told_met from c now s d t quiet runs stays h m = met_at c.end from c s d t refl quiet runs stays h.last h.told (then h.last now s h.meeting m)
