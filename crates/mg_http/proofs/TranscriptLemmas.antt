-- If memory sufficed, a session wrote a transcript; and every input has a transcript.
use Rattle.std.proofs.Common.{◌≡◌, ◌⊎◌, ℕ, zero, suc, ◌<◌, Bool, true, false, List, [], ◌∷◌, ◌++◌, length, take, drop, All, Option, Some, refl, sym, ap, ◌∙◌, subst, append_assoc, append-nil, take-append-drop, arith, length-append, length-take, length-drop, inl, inr}
use Rattle.std.proofs.lemmas.Bool.{cases_lt}
use Rattle.std.proofs.lemmas.List.{take_all}
use Rattle.std.proofs.lemmas.List.Elements.{All-head, All-tail}
use Rattle.httparse.specs.Grammar.{RequestHead, print_request}
use Rattle.mg_engine.specs.declared.refusal.Refusal.{Refusal}
use Rattle.mg_engine.specs.declared.refusal.Refusal.TheVariants.{HeadTooLarge, BadHead, InvalidJson}
use Rattle.mg_engine.specs.Commands.{Asked, Answer, refused, reply_of, next}
use Rattle.mg_engine.specs.World.{World}
use Rattle.mg_http.specs.declared.sessions.SessionEnd.{SessionEnd}
use Rattle.mg_http.specs.declared.sessions.SessionEnd.TheVariants.{Eof, Closed, Refused, ReadFault, WriteFault, Limit}
use Rattle.mg_http.specs.Device.{IsBytePrefix}
use Rattle.mg_http.specs.Head.{framed, unframed, framing_of, omits_body_of, closes_after}
use Rattle.mg_http.specs.Message.{Message, HasHead, Begins, IsRefused, IsNoHead, CanGoOn}
use Rattle.mg_http.specs.Reply.{text_of, reply_text}
use Rattle.mg_http.specs.Session.{Call, Handles, call_text, Serves, IsLastCall, IsSessionEnd, IsWritten, Converses, asked_by}
use Rattle.mg_http.specs.AtWorld.{AtWorld, ConversesAt, IsTranscriptAt, WroteTranscriptAt}
use Rattle.mg_http.specs.Target.{Request, body, asks, refuses}
use Rattle.mg_http.specs.Transcript.{EndsTranscript, IsTranscriptOf, IsTranscript, IsAnswered, EndsAmply, IsAmple, IsAtLimit, WroteAll, WroteTranscript}
use Rattle.mg_http.proofs.Forms.{course, exchange, passage, handling}
use Rattle.mg_http.proofs.MessageLemmas.{has_head, two_messages, Begins-append}
use Rattle.mg_http.proofs.HeadLemmas.{head_long}
use Rattle.mg_http.proofs.CutLemmas.{no_stop, one_reply, after_stop}
use Rattle.mg_http.proofs.SessionLemmas.{Serves-append}

-- the messages of some calls
abbrev messages_in : List Call → List Message
messages_in [] = []
messages_in (call ∷ calls) = call.message ∷ messages_in calls

-- a prefix of a prefix is a prefix
prefix_of_prefix : (xs ys zs : List ℕ) → IsBytePrefix xs ys → IsBytePrefix ys zs → IsBytePrefix xs zs
prefix_of_prefix xs ys zs a b =
    (a.0 ++ b.0, sym (append_assoc xs a.0 b.0) ∙ ap (λ (t : List ℕ). t ++ b.0) a.1 ∙ b.1)

-- a session that wrote all that it had to write, and any session
all_written : (end : SessionEnd) (written whole : List ℕ) → WroteAll end → IsWritten end written whole → written ≡ whole
all_written Eof written whole all h = h
all_written ReadFault written whole all h = h
all_written Closed written whole all h = h
all_written Refused written whole all h = h
all_written Limit written whole all h = h
all_written WriteFault written whole all h = absurd all

prefix_written : (end : SessionEnd) (written whole : List ℕ) → IsWritten end written whole → IsBytePrefix written whole
prefix_written WriteFault written whole h = h
prefix_written Eof written whole h = ([], append-nil written ∙ h)
prefix_written ReadFault written whole h = ([], append-nil written ∙ h)
prefix_written Closed written whole h = ([], append-nil written ∙ h)
prefix_written Refused written whole h = ([], append-nil written ∙ h)
prefix_written Limit written whole h = ([], append-nil written ∙ h)

module _ {S : Type 0} (answers : S → Asked → Option Answer → S → Type 0) (db : List ℕ) where
  -- a call that has an answer was handled with that answer
  known : (w : S) (call : Call) (u : S) (has : IsAnswered call)
      → Handles answers call.message.request call.message.body (handling w call.reply u)
      → Handles answers call.message.request call.message.body (handling w (Some has.0) u)
  known w call u has h = subst (λ (r : Option Answer). Handles answers call.message.request call.message.body (handling w r u)) has.1 h

  -- what the calls wrote and then a transcript of the rest are a transcript of the whole
  speaks : (w : S) (bytes : List ℕ) (calls : List Call) (text rest : List ℕ) (u : S) (ms : List Message) (later : List ℕ)
      → Serves answers db calls rest (exchange w bytes text u) → All IsAnswered calls → IsTranscriptOf answers db ms (passage u rest later)
      → IsTranscriptOf answers db (messages_in calls ++ ms) (passage w bytes (text ++ later))
  speaks w bytes [] text rest u ms later h all k = rw (h.0, h.1, ← h.2) k
  speaks w bytes (call ∷ calls) text rest u ms later h all k =
      let has = All-head IsAnswered call calls all in record {
        after = h.after;
        later = h.later ++ later;
        answer = has.0;
        mid = h.mid;
        begins = h.begins;
        handled = known w call h.mid has h.handled;
        text_is = ap (λ (t : List ℕ). t ++ later) h.text_is ∙ append_assoc (call_text call) h.later later
            ∙ ap (λ (r : Option Answer). reply_text call.message.omits_body r ++ (h.later ++ later)) has.1;
        others_follow = inr (h.stays, speaks h.mid h.after calls h.later rest u ms later h.others_follow (All-tail IsAnswered call calls all) k);
      }

  -- the last text is a transcript of the rest of the bytes
  last_speaks : (starved : Bool) (end : SessionEnd) (w : S) (rest last : List ℕ) (u : S) (e : IsSessionEnd answers db starved end (exchange w rest last u))
      → EndsAmply answers db starved end (exchange w rest last u) e → WroteAll end → IsTranscript answers db (passage w rest last)
  last_speaks starved Eof w rest last u e ample all = ([], inl (e.0, e.1.0))
  last_speaks starved ReadFault w rest last u e ample all = ([], inl (e.0, e.1.0))
  last_speaks starved Closed w rest last u (call, closes, answered) ample all = (
    call.message ∷ [],
    record {
      after = answered.after;
      later = [];
      answer = ample.0;
      mid = u;
      begins = answered.begins;
      handled = known w call u ample answered.handled;
      text_is = answered.text_is ∙ ap (λ (r : Option Answer). reply_text call.message.omits_body r) ample.1 ∙ sym (append-nil (text_of call.message.omits_body ample.0));
      others_follow = inl (closes, refl, refl);
    },
  )
  last_speaks starved Refused w rest last u (inl r, same) ample all = ([], inr r)
  last_speaks starved Refused w rest last u (inr r, same) ample all = absurd ample
  last_speaks starved WriteFault w rest last u e ample all = absurd all
  last_speaks starved Limit w rest last u e ample all = absurd all

  pub whole_transcript : (w : S) (bytes written : List ℕ) (u : S) (starved : Bool) (end : SessionEnd) (t : Converses answers db starved end (exchange w bytes written u))
      → IsAmple answers db starved end (exchange w bytes written u) t → WroteAll end → IsTranscript answers db (passage w bytes written)
  whole_transcript w bytes written u starved end t ample all =
      let last = last_speaks starved end t.mid t.rest t.last u t.ended ample.last all in
      let ms : List Message = messages_in t.calls ++ last.0 in
      (ms, subst (λ (x : List ℕ). IsTranscriptOf answers db ms (passage w bytes x)) (sym (all_written end written (t.text ++ t.last) all t.written_is)) (speaks w bytes t.calls t.text t.rest t.mid last.0 t.last t.served ample.calls last.1))

  pub holds : (read wrote : List ℕ → Type 0) (starved : Bool) (old new : S) (end : SessionEnd) (bytes written : List ℕ)
      → read bytes → wrote written → Converses answers db starved end (exchange old bytes written new) → IsAtLimit end bytes
      → WroteTranscript answers db (course read wrote starved old new end)
  holds read wrote starved old new end bytes written input output conversation limit = record {
    bytes = bytes;
    written = written;
    input = input;
    output = output;
    conversation = conversation;
    transcript = whole_transcript old bytes written new starved end conversation;
    limit = limit;
  }

module _ (db : List ℕ) where
  -- each transcript of the bytes is what the calls wrote, and then a transcript of the rest
  follows : (w : World) (bytes : List ℕ) (calls : List Call) (text rest : List ℕ) (u : World) (ns : List Message) (longer : List ℕ)
      → Serves AtWorld db calls rest (exchange w bytes text u) → All IsAnswered calls → IsTranscriptOf AtWorld db ns (passage w bytes longer)
      → (ms : List Message) × (later : List ℕ) × (longer ≡ text ++ later) × IsTranscriptOf AtWorld db ms (passage u rest later)
  follows w bytes [] text rest u ns longer h all k = (ns, longer, rw h.1 refl, rw (h.2, ← h.0) k)
  follows w bytes (call ∷ calls) text rest u [] longer h all k = absurd (no_stop db bytes call.message h.after longer h.begins k)
  follows w bytes (call ∷ calls) text rest u (n ∷ ns) longer h all k =
      let has = All-head IsAnswered call calls all in
      let one = two_messages db bytes call.message n h.after k.after h.begins k.begins in
      let mine : Handles AtWorld n.request n.body (handling w (Some has.0) h.mid) =
      subst (λ (m : Message). Handles AtWorld m.request m.body (handling w (Some has.0) h.mid)) one.0 (known AtWorld db w call h.mid has h.handled) in
      let reply = one_reply w n.request n.body has.0 k.answer h.mid k.mid mine k.handled in
      let first : call_text call ≡ text_of n.omits_body k.answer =
      ap (λ (r : Option Answer). reply_text call.message.omits_body r) has.1 ∙ ap (λ (m : Message). text_of m.omits_body has.0) one.0 ∙ ap (text_of n.omits_body) reply.0 in
      elim k.others_follow [
        | inl d ↦ absurd (let e : true ≡ false = sym d.0 ∙ sym (ap (λ (m : Message). m.closes) one.0) ∙ h.stays in cc)
        | inr d ↦
            let same : IsTranscriptOf AtWorld db ns (passage h.mid h.after k.later) =
            subst (λ (v : World). IsTranscriptOf AtWorld db ns (passage v h.after k.later)) (sym reply.1) (subst (λ (b : List ℕ). IsTranscriptOf AtWorld db ns (passage k.mid b k.later)) (sym one.1) d.1) in
            let more = follows h.mid h.after calls h.later rest u ns k.later h.others_follow (All-tail IsAnswered call calls all) same in (
              more.0,
              more.1,
              k.text_is ∙ ap (λ (t : List ℕ). t ++ k.later) (sym first) ∙ ap (λ (t : List ℕ). call_text call ++ t) more.2
                  ∙ sym (append_assoc (call_text call) h.later more.1) ∙ ap (λ (t : List ℕ). t ++ more.1) (sym h.text_is),
              more.3,
            )
      ]

  -- the reply to the first message is a prefix of each transcript, whatever bytes follow
  call_begins : (w : World) (rest more : List ℕ) (call : Call) (whole : List ℕ) (u : World) (ms : List Message) (later : List ℕ)
      → IsLastCall AtWorld db call (exchange w rest whole u) → IsAnswered call → IsTranscriptOf AtWorld db ms (passage w (rest ++ more) later) → IsBytePrefix whole later
  call_begins w rest more call whole u [] later a has k =
      absurd (no_stop db (rest ++ more) call.message (a.after ++ more) later (Begins-append db rest call.message a.after more a.begins) k)
  call_begins w rest more call whole u (n ∷ ns) later a has k =
      let one = two_messages db (rest ++ more) call.message n (a.after ++ more) k.after (Begins-append db rest call.message a.after more a.begins) k.begins in
      let mine : Handles AtWorld n.request n.body (handling w (Some has.0) u) =
      subst (λ (m : Message). Handles AtWorld m.request m.body (handling w (Some has.0) u)) one.0 (known AtWorld db w call u has a.handled) in
      let reply = one_reply w n.request n.body has.0 k.answer u k.mid mine k.handled in
      let first : whole ≡ text_of n.omits_body k.answer =
      a.text_is ∙ ap (λ (r : Option Answer). reply_text call.message.omits_body r) has.1 ∙ ap (λ (m : Message). text_of m.omits_body has.0) one.0 ∙ ap (text_of n.omits_body) reply.0 in
      (k.later, ap (λ (t : List ℕ). t ++ k.later) first ∙ sym k.text_is)

  -- a text that refuses the bytes is a prefix of each transcript of them, whatever bytes follow
  refusal_begins : (w : World) (rest more whole : List ℕ) (ms : List Message) (later : List ℕ)
      → ((refusal : Refusal) × (omits_body : Bool) × IsRefused db rest refusal omits_body × (whole ≡ text_of omits_body (refused refusal)))
      → IsTranscriptOf AtWorld db ms (passage w (rest ++ more) later) → IsBytePrefix whole later
  refusal_begins w rest more whole ms later r k = after_stop db w rest more whole ms later (inr r) k

  nothing_begins : (last later : List ℕ) → last ≡ [] → IsBytePrefix last later
  nothing_begins last later e = (later, rw e refl)

  -- the last text is a prefix of each transcript of the rest of the bytes, whatever bytes follow
  last_begins : (starved : Bool) (end : SessionEnd) (w : World) (rest last : List ℕ) (u : World) (e : IsSessionEnd AtWorld db starved end (exchange w rest last u))
      → EndsAmply AtWorld db starved end (exchange w rest last u) e → (more : List ℕ) (ms : List Message) (later : List ℕ) → IsTranscriptOf AtWorld db ms (passage w (rest ++ more) later) → IsBytePrefix last later
  last_begins starved Eof w rest last u e ample more ms later k = nothing_begins last later e.1.0
  last_begins starved ReadFault w rest last u e ample more ms later k = nothing_begins last later e.1.0
  last_begins starved Limit w rest last u e ample more ms later k = nothing_begins last later e.0
  last_begins starved Closed w rest last u e ample more ms later k = call_begins w rest more e.0 last u ms later e.2 ample k
  last_begins starved Refused w rest last u (inl r, same) ample more ms later k = refusal_begins w rest more last ms later r k
  last_begins starved Refused w rest last u (inr r, same) ample more ms later k = absurd ample
  last_begins starved WriteFault w rest last u (inl nothing) ample more ms later k = nothing_begins last later nothing.0
  last_begins starved WriteFault w rest last u (inr (inl e)) ample more ms later k = call_begins w rest more e.0 last u ms later e.2 ample k
  last_begins starved WriteFault w rest last u (inr (inr (inl r, same))) ample more ms later k = refusal_begins w rest more last ms later r k
  last_begins starved WriteFault w rest last u (inr (inr (inr r, same))) ample more ms later k = absurd ample

  pub prefix_of_transcript : (w : World) (bytes written : List ℕ) (u : World) (starved : Bool) (end : SessionEnd) (t : ConversesAt db starved end (exchange w bytes written u))
      → IsAmple AtWorld db starved end (exchange w bytes written u) t → (more text : List ℕ) → IsTranscriptAt db w (bytes ++ more) text → IsBytePrefix written text
  prefix_of_transcript w bytes written u starved end t ample more text k =
      let served = Serves-append AtWorld db w bytes t.calls t.text t.rest t.mid more t.served in
      let left = follows w (bytes ++ more) t.calls t.text (t.rest ++ more) t.mid k.0 text served ample.calls k.1 in
      let last = last_begins starved end t.mid t.rest t.last u t.ended ample.last more left.0 left.1 left.3 in
      let whole : IsBytePrefix (t.text ++ t.last) text = (last.0, append_assoc t.text t.last last.0 ∙ ap (λ (x : List ℕ). t.text ++ x) last.1 ∙ sym left.2) in
      prefix_of_prefix written (t.text ++ t.last) text (prefix_written end written (t.text ++ t.last) t.written_is) whole

  pub holds_at : (read wrote : List ℕ → Type 0) (starved : Bool) (w u : World) (end : SessionEnd) (bytes written : List ℕ) → read bytes → wrote written
      → ConversesAt db starved end (exchange w bytes written u) → IsAtLimit end bytes → WroteTranscriptAt db (course read wrote starved w u end)
  unfolding holds
  holds_at read wrote starved w u end bytes written input output conversation limit = record {
    session = holds AtWorld db read wrote starved w u end bytes written input output conversation limit;
    prefix = prefix_of_transcript w bytes written u starved end conversation;
  }

  -- ---- every input has a transcript

  -- a request has some reply
  some_reply : (w : World) (request : Request) (bytes : List ℕ)
      → ((answer : Answer) (u : World) → ¬ (Handles AtWorld request bytes (handling w (Some answer) u))) → ⊥
  some_reply w (refuses refusal) bytes lacking = lacking (refused refusal) w (refl, refl)
  some_reply w (asks command) bytes lacking = lacking (reply_of w command) (next w command) (refl, refl)
  some_reply w (body endpoint) bytes lacking =
      lacking (refused InvalidJson) w (inr (inl (λ v r. lacking (reply_of w (asked_by endpoint v)) (next w (asked_by endpoint v)) (inl (v, r, (refl, refl))), refl, refl)))

  -- bytes without a head are incomplete or refused
  no_head_stops : (bytes : List ℕ) → ((h : RequestHead) (after : List ℕ) → ¬ (HasHead bytes h after)) → ((text : List ℕ) → ¬ (EndsTranscript db bytes text)) → ⊥
  no_head_stops bytes none stops =
      let bad : ¬ (IsNoHead (take 16384 bytes)) = λ x. stops (text_of false (refused BadHead)) (inr (BadHead, false, inr (inl (x, refl, refl)), refl)) in
      let going : CanGoOn (take 16384 bytes) = (λ h r reads. none h (r ++ drop 16384 bytes) (has_head bytes 16384 h r (omega arith) reads), bad) in
      elim (cases_lt (length bytes) 16384) [
        | inl short ↦ stops [] (inl (inl (short, rw (take_all 16384 bytes (omega (arith, short))) at going), refl))
        | inr long ↦ stops (text_of false (refused HeadTooLarge)) (inr (HeadTooLarge, false, inr (inr (long, going, refl, refl)), refl))
      ]

  -- what follows a head is shorter than the bytes
  rest_shorter : (bytes : List ℕ) (h : RequestHead) (after : List ℕ) (n k : ℕ) → HasHead bytes h after → length bytes < suc k → length (drop n after) < k
  rest_shorter bytes h after n k has small =
      omega (arith, head_long h has.reads.0, ap length has.reads.1, length-append (print_request h) after, length-drop n after)

  some_transcript : (k : ℕ) (bytes : List ℕ) (w : World) → length bytes < k → ¬ ((text : List ℕ) → ¬ (IsTranscriptAt db w bytes text))
  some_transcript zero bytes w small none = absurd (omega (arith, small))
  some_transcript (suc k) bytes w small none =
      let stops : (text : List ℕ) → ¬ (EndsTranscript db bytes text) = λ text s. none text ([], s) in
      no_head_stops bytes (λ h after has.
      elim (framing_of db h) as (λ a. framing_of db h ≡ a → ⊥) [
        | unframed refusal ↦ λ e. stops (text_of (omits_body_of h) (refused refusal)) (inr (refusal, omits_body_of h, inl (h, after, has, e, refl), refl))
        | framed request n ↦ λ e.
            elim (cases_lt (length after) n) [
              | inl short ↦ stops [] (inl (inr (h, after, request, n, has, e, short), refl))
              | inr there ↦
                  let m : Message = record { request = request; body = take n after; omits_body = omits_body_of h; closes = closes_after h } in
                  let size : length (take n after) ≡ n = omega (arith, length-take n after, there) in
                  let begins : Begins db bytes m (drop n after) = record {
                    head = h;
                    after = after;
                    has = has;
                    framed = record { framing = rw size e; omits_body = refl; closes = refl };
                    joined = sym (take-append-drop n after);
                  } in
                  let one : (text later : List ℕ) (answer : Answer) (u : World) (ms : List Message) → Handles AtWorld request (take n after) (handling w (Some answer) u)
                  → text ≡ text_of (omits_body_of h) answer ++ later
                  → ((closes_after h ≡ true) × (ms ≡ []) × (later ≡ [])) ⊎ ((closes_after h ≡ false) × IsTranscriptOf AtWorld db ms (passage u (drop n after) later))
                  → IsTranscriptOf AtWorld db (m ∷ ms) (passage w bytes text) =
                  λ text later answer u ms handled is others. record {
                    after = drop n after;
                    later = later;
                    answer = answer;
                    mid = u;
                    begins = begins;
                    handled = handled;
                    text_is = is;
                    others_follow = others;
                  } in
                  some_reply w request (take n after) (λ answer u handled.
                  elim (closes_after h) as (λ c. closes_after h ≡ c → ⊥) [
                    | true ↦ λ c. none (text_of (omits_body_of h) answer ++ []) (m ∷ [], one (text_of (omits_body_of h) answer ++ []) [] answer u [] handled refl (inl (c, refl, refl)))
                    | false ↦ λ c.
                        some_transcript k (drop n after) u (rest_shorter bytes h after n k has small)
                        (λ later t. none (text_of (omits_body_of h) answer ++ later) (m ∷ t.0, one (text_of (omits_body_of h) answer ++ later) later answer u t.0 handled refl (inr (c, t.1))))
                  ] refl)
            ]
      ] refl) stops

  pub never_without : (w : World) (bytes : List ℕ) → ¬ ((text : List ℕ) → ¬ (IsTranscriptAt db w bytes text))
  never_without w bytes = some_transcript (suc (length bytes)) bytes w (omega arith)
