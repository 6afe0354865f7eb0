-- How what was said on a connection composes: what was said before stays true when more is received and said.
use Rattle.std.proofs.Common.{◌≡◌, ◌⊎◌, ℕ, ◌+◌, ◌-◌, ◌<◌, ◌≤◌, List, [], ◌∷◌, ◌++◌, length, take, drop, Option, Some, None, refl, sym, ap, ◌∙◌, subst, append_assoc, append-nil, take-append-drop, drop-drop, arith, length-append, length-drop, inl, inr, cond, Bool, true, false}
use Rattle.std.specs.Prelude.{slice_range, IsTrue}
use Rattle.std.proofs.lemmas.Grind.{common_steps}
use Rattle.std.proofs.lemmas.List.{drop-append-le}
use Rattle.httparse.specs.Grammar.{RequestHead, print_request}
use Rattle.mg_engine.specs.Commands.{Asked, Answer, refused}
use Rattle.mg_engine.specs.declared.refusal.Refusal.{Refusal}
use Rattle.mg_http.specs.declared.request.head.Framed.{Framed}
use Rattle.mg_http.specs.declared.request.head.Pending.TheVariants as pending
use Rattle.mg_http.specs.declared.sessions.SessionEnd.{SessionEnd}
use Rattle.mg_http.specs.declared.sessions.SessionEnd.TheVariants as session
use Rattle.mg_http.specs.declared.sessions.connection.Ending.{Ending}
use Rattle.mg_http.specs.declared.sessions.connection.Ending.TheVariants.{Closed, Refused, Limit}
use Rattle.mg_http.specs.Connection.{end_of, IsKept, Stands, Counts}
use Rattle.mg_http.specs.Message.{HasHead, Begins, IsRefused, IsPartHead, IsWaiting}
use Rattle.mg_http.specs.Reply.{text_of, reply_text}
use Rattle.mg_http.specs.Session.{Call, Handles, call_text, Serves, LacksMemory, IsRefusalText, IsSessionEnd, IsWritten, Converses}
use Rattle.mg_http.specs.Steps.{request_in, message_of, IsFramed, LacksMemoryForHead, IsPending}
use Rattle.mg_http.proofs.Forms.{exchange, handling}
use Rattle.mg_http.proofs.HeadLemmas.{head_long}
use Rattle.mg_http.proofs.MessageLemmas.{HasHead-append, Begins-append}

-- the n items from i on, and what follows them
cut : (xs : List ℕ) (i n : ℕ) → drop i xs ≡ slice_range xs i (i + n) ++ drop (i + n) xs
cut xs i n = let e : i + n - i ≡ n = omega arith in rw e (sym (take-append-drop n (drop i xs)) ∙ ap (λ (t : List ℕ). take n (drop i xs) ++ t) (drop-drop n i xs))

module _ (db : List ℕ) (h : RequestHead) (f : Framed) (bytes : List ℕ) (has : HasHead bytes h (drop f.head_len bytes)) (is : IsFramed db h f) where
  -- if the body is complete, the bytes begin with the message
  pub whole_message : f.head_len + f.body_len ≤ length bytes
      → Begins db bytes (message_of f (slice_range bytes f.head_len (f.head_len + f.body_len))) (drop (f.head_len + f.body_len) bytes)
  whole_message there =
      let long : length (slice_range bytes f.head_len (f.head_len + f.body_len)) ≡ f.body_len = grind (arith, common_steps) in
      record {
        head = h;
        after = drop f.head_len bytes;
        has = has;
        framed = record { framing = rw long is.framing; omits_body = is.omits_body; closes = is.closes };
        joined = cut bytes f.head_len f.body_len;
      }

  -- if the body is incomplete, the session waits
  pub part_message : f.head_len ≤ length bytes → length bytes < f.head_len + f.body_len → IsWaiting db bytes
  part_message within short =
      inr (h, drop f.head_len bytes, request_in f.request, f.body_len, has, is.framing, omega (arith, within, short, length-drop f.head_len bytes))

  -- there may be no memory after a complete head
  pub lacks_memory : (starved : Bool) → LacksMemory starved bytes f.omits_body
  lacks_memory starved = inr (h, drop f.head_len bytes, has, is.omits_body)

  -- the bytes still begin with the head when more arrive
  pub head_with : (more : List ℕ) → f.head_len ≤ length bytes → HasHead (bytes ++ more) h (drop f.head_len (bytes ++ more))
  head_with more within = rw (drop-append-le f.head_len bytes more within) (HasHead-append bytes h (drop f.head_len bytes) more has)

-- a head has at least one byte
head_counts : (bytes : List ℕ) (h : RequestHead) (len : ℕ) → HasHead bytes h (drop len bytes) → len ≤ length bytes → 1 ≤ len
head_counts bytes h len has within =
    omega (arith, within, head_long h has.reads.0, ap length has.reads.1, length-append (print_request h) (drop len bytes), length-drop len bytes)

-- the text of a refusal refuses the bytes, or says that memory ran out
pub refuses_by : (db : List ℕ) (starved : Bool) (bytes : List ℕ) (refusal : Refusal) (omits_body : Bool)
    → IsRefused db bytes refusal omits_body ⊎ LacksMemoryForHead bytes refusal omits_body → IsRefusalText db starved bytes (text_of omits_body (refused refusal))
refuses_by db starved bytes refusal omits_body (inl is) = inl (refusal, omits_body, is, refl)
refuses_by db starved bytes refusal omits_body (inr (is, h, after, has, quiet)) =
    inr (omits_body, inr (h, after, has, quiet), ap (λ (r : Refusal). text_of omits_body (refused r)) is)

-- a head that was read stays read when more bytes arrive
kept_more : (db bytes more : List ℕ) (framed : Option Framed) → IsKept db bytes framed → IsKept db (bytes ++ more) framed
kept_more db bytes more None h = tt
kept_more db bytes more (Some f) h =
    (omega (arith, h.0, length-append bytes more), h.1, h.2, head_with db h.2 f bytes h.3 h.4 more h.0, h.4)

-- an incomplete head, or a whole head before an incomplete body: there may be no memory for more
pub lacks_after : (db bytes : List ℕ) (f : Framed) → IsPending db bytes (pending.Head f) → (starved : Bool) → IsTrue starved
    → IsRefusalText db starved bytes (reply_text f.omits_body None)
lacks_after db bytes f h starved is = inr (f.omits_body, lacks_memory db h.2 f bytes h.3 h.4 starved, refl)

pub lacks_within : (db bytes : List ℕ) → IsPartHead bytes → (starved : Bool) → IsTrue starved → IsRefusalText db starved bytes (reply_text false None)
lacks_within db bytes h starved is = inr (false, inl (is, h, refl), refl)

pub waits_in_body : (db bytes : List ℕ) (f : Framed) → IsPending db bytes (pending.Head f) → length bytes < f.head_len + f.body_len → IsWaiting db bytes
waits_in_body db bytes f h short = part_message db h.2 f bytes h.3 h.4 h.0 short

-- what is counted before and after
pub counts_then : (end : Option Ending) (a b c : ℕ) → b ≤ a → Counts end b c → Counts end a c
counts_then None a b c h k = omega (arith, h, k)
counts_then (Some Closed) a b c h k = tt
counts_then (Some Refused) a b c h k = tt
counts_then (Some Limit) a b c h k = omega (arith, h, k)

pub answered_counts : (db bytes : List ℕ) (f : Framed) (messages : ℕ) (end : Option Ending) → IsPending db bytes (pending.Head f) → f.head_len + f.body_len ≤ length bytes
    → end ≡ cond f.closes (Some Closed) None → Counts end (messages + length bytes) (messages + 1 + length (drop (f.head_len + f.body_len) bytes))
answered_counts db bytes f messages end h whole e =
    elim f.closes as (λ b. end ≡ cond b (Some Closed) None → Counts end (messages + length bytes) (messages + 1 + length (drop (f.head_len + f.body_len) bytes))) [
      | true ↦ λ is. rw is tt
      | false ↦ λ is. rw is (omega (arith, head_counts bytes h.2 f.head_len h.3 h.0, whole, length-drop (f.head_len + f.body_len) bytes))
    ] e

-- what was written before, and then a session
written_then : (end : SessionEnd) (text written whole : List ℕ) → IsWritten end written whole → IsWritten end (text ++ written) (text ++ whole)
written_then session.Eof text written whole h = ap (λ (t : List ℕ). text ++ t) h
written_then session.ReadFault text written whole h = ap (λ (t : List ℕ). text ++ t) h
written_then session.Limit text written whole h = ap (λ (t : List ℕ). text ++ t) h
written_then session.Closed text written whole h = ap (λ (t : List ℕ). text ++ t) h
written_then session.Refused text written whole h = ap (λ (t : List ℕ). text ++ t) h
written_then session.WriteFault text written whole h = (h.0, append_assoc text written h.0 ∙ ap (λ (t : List ℕ). text ++ t) h.1)

module _ {S : Type 0} (answers : S → Asked → Option Answer → S → Type 0) (db : List ℕ) where
  -- bytes that come later follow the rest of a sequence of calls
  pub Serves-append : (old : S) (bytes : List ℕ) (calls : List Call) (text rest : List ℕ) (new : S) (more : List ℕ)
      → Serves answers db calls rest (exchange old bytes text new) → Serves answers db calls (rest ++ more) (exchange old (bytes ++ more) text new)
  Serves-append old bytes [] text rest new more h = (ap (λ (t : List ℕ). t ++ more) h.0, h.1, h.2)
  Serves-append old bytes (call ∷ calls) text rest new more h = record {
    after = h.after ++ more;
    later = h.later;
    mid = h.mid;
    begins = Begins-append db bytes call.message h.after more h.begins;
    stays = h.stays;
    handled = h.handled;
    text_is = h.text_is;
    others_follow = Serves-append h.mid h.after calls h.later rest new more h.others_follow;
  }

  -- two sequences of calls, one after the other, are one sequence
  pub Serves-then : (old : S) (bytes : List ℕ) (calls : List Call) (text mid : List ℕ) (between : S) (others : List Call) (later rest : List ℕ) (new : S)
      → Serves answers db calls mid (exchange old bytes text between) → Serves answers db others rest (exchange between mid later new)
      → Serves answers db (calls ++ others) rest (exchange old bytes (text ++ later) new)
  Serves-then old bytes [] text mid between others later rest new h k = rw (h.0, h.1, ← h.2) k
  Serves-then old bytes (call ∷ calls) text mid between others later rest new h k = record {
    after = h.after;
    later = h.later ++ later;
    mid = h.mid;
    begins = h.begins;
    stays = h.stays;
    handled = h.handled;
    text_is = ap (λ (t : List ℕ). t ++ later) h.text_is ∙ append_assoc (call_text call) h.later later;
    others_follow = Serves-then h.mid h.after calls h.later mid between others later rest new h.others_follow k;
  }

  -- a sequence of calls and then a session are a session
  pub Converses-then : (old : S) (bytes : List ℕ) (calls : List Call) (text mid : List ℕ) (between : S) (written : List ℕ) (new : S) (starved : Bool) (end : SessionEnd)
      → Serves answers db calls mid (exchange old bytes text between) → Converses answers db starved end (exchange between mid written new)
      → Converses answers db starved end (exchange old bytes (text ++ written) new)
  Converses-then old bytes calls text mid between written new starved end h k = record {
    calls = calls ++ k.calls;
    text = text ++ k.text;
    rest = k.rest;
    mid = k.mid;
    served = Serves-then old bytes calls text mid between k.calls k.text k.rest k.mid h k.served;
    last = k.last;
    ended = k.ended;
    written_is = subst (IsWritten end (text ++ written)) (sym (append_assoc text k.text k.last)) (written_then end text written (k.text ++ k.last) k.written_is);
  }

  -- the last text on a connection
  pub ends_at : (old : S) (bytes last : List ℕ) (new : S) (starved : Bool) (end : SessionEnd) → IsSessionEnd answers db starved end (exchange old bytes last new) → IsWritten end last last
      → Converses answers db starved end (exchange old bytes last new)
  ends_at old bytes last new starved end h all =
      record { calls = []; text = []; rest = bytes; mid = old; served = (refl, refl, refl); last = last; ended = h; written_is = all }

  -- what was said before, and then more
  pub stands_then : (starved : Bool) (end : Option Ending) (a : S) (bytes : List ℕ) (calls : List Call) (text left : List ℕ) (b : S) (later : List ℕ) (c : S) (rest : List ℕ)
      (framed : Option Framed) → Serves answers db calls left (exchange a bytes text b) → Stands answers db starved end (exchange b left later c) rest framed
      → Stands answers db starved end (exchange a bytes (text ++ later) c) rest framed
  stands_then starved None a bytes calls text left b later c rest framed h k = ((calls ++ k.0.0, Serves-then a bytes calls text left b k.0.0 later rest c h k.0.1), k.1)
  stands_then starved (Some ending) a bytes calls text left b later c rest framed h k = Converses-then a bytes calls text left b later c starved (end_of ending) h k

  -- more bytes were received
  pub stands_more : (starved now : Bool) (end : Option Ending) (a : S) (bytes text : List ℕ) (b : S) (left : List ℕ) (framed : Option Framed) (more : List ℕ)
      → ((more ≡ []) × (now ≡ starved)) ⊎ (end ≡ None)
      → Stands answers db starved end (exchange a bytes text b) left framed → Stands answers db now end (exchange a (bytes ++ more) text b) (left ++ more) framed
  stands_more starved now None a bytes text b left framed more goes_on h = ((h.0.0, Serves-append a bytes h.0.0 text left b more h.0.1), kept_more db left more framed h.1)
  stands_more starved now (Some ending) a bytes text b left framed more (inl (none, same)) h = rw (none, append-nil bytes, same) h
  stands_more starved now (Some ending) a bytes text b left framed more (inr is) h = cc

  -- a message was answered
  answered_by : (closes : Bool) (old : S) (bytes rest : List ℕ) (new : S) (call : Call) (starved : Bool) (end : Option Ending) → call.message.closes ≡ closes
      → Begins db bytes call.message rest → Handles answers call.message.request call.message.body (handling old call.reply new) → end ≡ cond closes (Some Closed) None
      → Stands answers db starved end (exchange old bytes (call_text call) new) rest None
  answered_by true old bytes rest new call starved end c h k e =
      rw e (ends_at old bytes (call_text call) new starved session.Closed (call, c, record { after = rest; begins = h; handled = k; text_is = refl }) refl)
  answered_by false old bytes rest new call starved end c h k e =
      let one : Serves answers db (call ∷ []) rest (exchange old bytes (call_text call) new) = record { after = rest; later = []; mid = new; begins = h; stays = c; handled = k; text_is = sym (append-nil (call_text call)); others_follow = (refl, refl, refl) } in
      rw e ((call ∷ [], one), tt)

  pub answered : (old : S) (bytes : List ℕ) (f : Framed) (reply : Option Answer) (new : S) (starved : Bool) (end : Option Ending) → IsPending db bytes (pending.Head f)
      → f.head_len + f.body_len ≤ length bytes
      → Handles answers (request_in f.request) (slice_range bytes f.head_len (f.head_len + f.body_len)) (handling old reply new)
      → end ≡ cond f.closes (Some Closed) None
      → Stands answers db starved end (exchange old bytes (reply_text f.omits_body reply) new) (drop (f.head_len + f.body_len) bytes) None
  answered old bytes f reply new starved end h whole handled e =
      let message = message_of f (slice_range bytes f.head_len (f.head_len + f.body_len)) in
      answered_by f.closes old bytes (drop (f.head_len + f.body_len) bytes) new (record { message = message; reply = reply }) starved end refl (whole_message db h.2 f bytes h.3 h.4 whole) handled e
