-- What bytes begin with, before and after more arrive.
use Rattle.std.proofs.Common.{◌≡◌, ℕ, Bool, true, false, List, [], ◌∷◌, ◌++◌, length, take, take_all, Some, None, refl, sym, ap, ◌∙◌, append_assoc, append-nil, arith, length-append, inl, inr}
use Rattle.httparse.specs.Grammar.{RequestHead}
use Rattle.mg_value.specs.Value.{Value}
use Rattle.mg_value.specs.Text.{Reads, whole_of}
use Rattle.mg_engine.specs.declared.refusal.Refusal.{Refusal}
use Rattle.mg_engine.specs.Commands.{Answer, refused, reply_of, next}
use Rattle.mg_engine.specs.World.{World}
use Rattle.mg_http.specs.declared.request.routes.Endpoint.{Endpoint}
use Rattle.mg_http.specs.Device.{IsBytePrefix}
use Rattle.mg_http.specs.Head.{framed, unframed, framing_of, omits_body_of}
use Rattle.mg_http.specs.Message.{Message, HasHead, Begins, IsRefused, IsWaiting}
use Rattle.mg_http.specs.Reply.{text_of}
use Rattle.mg_http.specs.Session.{Handles, HandlesBody, asked_by}
use Rattle.mg_http.specs.AtWorld.{AtWorld}
use Rattle.mg_http.specs.Target.{Request, body, asks, refuses}
use Rattle.mg_http.specs.Transcript.{EndsTranscript, IsTranscriptOf}
use Rattle.mg_http.proofs.Forms.{passage, handling}
use Rattle.mg_http.proofs.MessageLemmas.{in_window, one_head, HasHead-append, Begins-append, two_messages, never_framed, framed_request, no_head_more, never_none, window_more, window_full}

module _ (db : List ℕ) where
  -- refused bytes are refused for the same reason when more arrive
  pub refused_more : (bytes more : List ℕ) (r : Refusal) (s : Bool) → IsRefused db bytes r s → IsRefused db (bytes ++ more) r s
  refused_more bytes more r s (inl x) = inl (x.0, x.1 ++ more, HasHead-append bytes x.0 x.1 more x.2, x.3, x.4)
  refused_more bytes more r s (inr (inl x)) =
      let w = window_more 16384 bytes more in
      inr (inl (rw (sym w.1) at (no_head_more (take 16384 bytes) w.0 x.0), x.1, x.2))
  refused_more bytes more r s (inr (inr x)) =
      let w = window_full 16384 bytes more x.0 in
      inr (inr (omega (arith, x.0, length-append bytes more), rw (sym w) at x.1, x.2, x.3))

  -- bytes are refused for at most one reason
  pub refused_once : (bytes : List ℕ) (r q : Refusal) (s t : Bool) → IsRefused db bytes r s → IsRefused db bytes q t → (r ≡ q) × (s ≡ t)
  refused_once bytes r q s t (inl x) (inl y) =
      let one = one_head bytes x.0 y.0 x.1 y.1 x.2 y.2 in
      let same : unframed r ≡ unframed q = sym x.3 ∙ ap (framing_of db) one.0 ∙ y.3 in
      (cc, x.4 ∙ ap omits_body_of one.0 ∙ sym y.4)
  refused_once bytes r q s t (inl x) (inr (inl y)) = absurd (never_none _ _ _ y.0.0 (in_window bytes x.0 x.1 x.2))
  refused_once bytes r q s t (inl x) (inr (inr y)) = absurd (y.1.0 _ _ (in_window bytes x.0 x.1 x.2))
  refused_once bytes r q s t (inr (inl x)) (inl y) = absurd (never_none _ _ _ x.0.0 (in_window bytes y.0 y.1 y.2))
  refused_once bytes r q s t (inr (inl x)) (inr (inl y)) = (x.1 ∙ sym y.1, x.2 ∙ sym y.2)
  refused_once bytes r q s t (inr (inl x)) (inr (inr y)) = absurd (y.1.1 x.0)
  refused_once bytes r q s t (inr (inr x)) (inl y) = absurd (x.1.0 _ _ (in_window bytes y.0 y.1 y.2))
  refused_once bytes r q s t (inr (inr x)) (inr (inl y)) = absurd (x.1.1 y.0)
  refused_once bytes r q s t (inr (inr x)) (inr (inr y)) = (x.2 ∙ sym y.2, x.3 ∙ sym y.3)

  -- a head that asks for a message is not refused
  head_not_refused : (bytes : List ℕ) (h : RequestHead) (after : List ℕ) (request : Request) (n : ℕ) (r : Refusal) (s : Bool)
      → HasHead bytes h after → framing_of db h ≡ framed request n → IsRefused db bytes r s → ⊥
  head_not_refused bytes h after request n r s has is (inl x) =
      let one = one_head bytes h x.0 after x.1 has x.2 in
      never_framed request n r (sym is ∙ ap (framing_of db) one.0 ∙ x.3)
  head_not_refused bytes h after request n r s has is (inr (inl x)) = never_none _ _ _ x.0.0 (in_window bytes h after has)
  head_not_refused bytes h after request n r s has is (inr (inr x)) = x.1.0 _ _ (in_window bytes h after has)

  pub waiting_not_refused : (bytes : List ℕ) (r : Refusal) (s : Bool) → IsWaiting db bytes → IsRefused db bytes r s → ⊥
  waiting_not_refused bytes r s (inr p) x = head_not_refused bytes p.0 p.1 p.2 p.3 r s p.4 p.5 x
  waiting_not_refused bytes r s (inl p) (inl x) = p.1.0 x.0 x.1 x.2.reads
  waiting_not_refused bytes r s (inl p) (inr (inl x)) = p.1.1 (rw (take_all 16384 bytes (omega (arith, p.0))) at x.0)
  waiting_not_refused bytes r s (inl p) (inr (inr x)) = omega (arith, p.0, x.0)

  pub message_not_refused : (bytes : List ℕ) (m : Message) (rest : List ℕ) (r : Refusal) (s : Bool) → Begins db bytes m rest → IsRefused db bytes r s → ⊥
  message_not_refused bytes m rest r s b x = head_not_refused bytes b.head b.after m.request (length m.body) r s b.has b.framed.framing x

  pub message_not_waiting : (bytes : List ℕ) (m : Message) (rest : List ℕ) → Begins db bytes m rest → IsWaiting db bytes → ⊥
  message_not_waiting bytes m rest b (inl p) = p.1.0 b.head b.after b.has.reads
  message_not_waiting bytes m rest b (inr p) =
      let one = one_head bytes b.head p.0 b.after p.1 b.has p.4 in
      let same = framed_request m.request p.2 (length m.body) p.3 (sym b.framed.framing ∙ ap (framing_of db) one.0 ∙ p.5) in
      omega (arith, p.6, same.1, ap length one.1, ap length b.joined, length-append m.body rest)

  -- bytes that begin with a message are neither incomplete nor refused
  pub no_stop : (bytes : List ℕ) (m : Message) (rest text : List ℕ) → Begins db bytes m rest → EndsTranscript db bytes text → ⊥
  no_stop bytes m rest text b (inl x) = message_not_waiting bytes m rest b x.0
  no_stop bytes m rest text b (inr x) = message_not_refused bytes m rest x.0 x.1 b x.2

-- ---- one reply

-- a body is at most one value
one_value : (bytes : List ℕ) (v w : Value) → Reads bytes v → Reads bytes w → v ≡ w
one_value bytes v w x y =
    let read : Some x.0 ≡ Some y.0 = sym x.1.1 ∙ y.1.1 in
    let same : x.0 ≡ y.0 = cc in
    let value : Some v ≡ Some w = sym x.2 ∙ ap whole_of same ∙ y.2 in cc

some_none : {X : Type 0} (x : X) → Some x ≡ None → ⊥
some_none x e = cc

some_some : {X : Type 0} (x y : X) → Some x ≡ Some y → x ≡ y
some_some x y e = cc

one_body : (w : World) (endpoint : Endpoint) (bytes : List ℕ) (a b : Answer) (u v : World)
    → HandlesBody AtWorld endpoint bytes (handling w (Some a) u) → HandlesBody AtWorld endpoint bytes (handling w (Some b) v) → (a ≡ b) × (u ≡ v)
one_body w endpoint bytes a b u v (inl x) (inl y) =
    let same = one_value bytes x.0 y.0 x.1 y.1 in
    (x.2.0 ∙ ap (λ (t : Value). reply_of w (asked_by endpoint t)) same ∙ sym y.2.0, sym x.2.1 ∙ ap (λ (t : Value). next w (asked_by endpoint t)) same ∙ y.2.1)
one_body w endpoint bytes a b u v (inl x) (inr (inl y)) = absurd (y.0 x.0 x.1)
one_body w endpoint bytes a b u v (inr (inl x)) (inl y) = absurd (x.0 y.0 y.1)
one_body w endpoint bytes a b u v (inr (inl x)) (inr (inl y)) = (some_some a b (x.1 ∙ sym y.1), x.2 ∙ sym y.2)
one_body w endpoint bytes a b u v (inr (inr x)) y = absurd (some_none a x.0)
one_body w endpoint bytes a b u v (inl x) (inr (inr y)) = absurd (some_none b y.0)
one_body w endpoint bytes a b u v (inr (inl x)) (inr (inr y)) = absurd (some_none b y.0)

pub one_reply : (w : World) (request : Request) (bytes : List ℕ) (a b : Answer) (u v : World)
    → Handles AtWorld request bytes (handling w (Some a) u) → Handles AtWorld request bytes (handling w (Some b) v) → (a ≡ b) × (u ≡ v)
one_reply w (body endpoint) bytes a b u v x y = one_body w endpoint bytes a b u v x y
one_reply w (asks command) bytes a b u v x y = (x.0 ∙ sym y.0, sym x.1 ∙ y.1)
one_reply w (refuses refusal) bytes a b u v x y = (some_some a b (x.0 ∙ sym y.0), x.1 ∙ sym y.1)

-- ---- any cut

module _ (db : List ℕ) where
  -- the text of bytes that cannot be answered is a prefix of each transcript of those bytes and more
  pub after_stop : (w : World) (bytes more text : List ℕ) (ns : List Message) (longer : List ℕ) → EndsTranscript db bytes text → IsTranscriptOf AtWorld db ns (passage w (bytes ++ more) longer) → IsBytePrefix text longer
  after_stop w bytes more text ns longer (inl x) k = (longer, rw x.1 refl)
  after_stop w bytes more text [] longer (inr x) (inl y) = absurd (waiting_not_refused db (bytes ++ more) x.0 x.1 y.0 (refused_more db bytes more x.0 x.1 x.2))
  after_stop w bytes more text [] longer (inr x) (inr y) =
      let one = refused_once db (bytes ++ more) x.0 y.0 x.1 y.1 (refused_more db bytes more x.0 x.1 x.2) y.2 in
      ([], append-nil text ∙ x.3 ∙ ap (λ (r : Refusal). text_of x.1 (refused r)) one.0 ∙ ap (λ (s : Bool). text_of s (refused y.0)) one.1 ∙ sym y.3)
  after_stop w bytes more text (n ∷ ns) longer (inr x) k =
      absurd (message_not_refused db (bytes ++ more) n k.after x.0 x.1 k.begins (refused_more db bytes more x.0 x.1 x.2))

  pub begins : (w : World) (bytes more : List ℕ) (ms : List Message) (text : List ℕ) (ns : List Message) (longer : List ℕ)
      → IsTranscriptOf AtWorld db ms (passage w bytes text) → IsTranscriptOf AtWorld db ns (passage w (bytes ++ more) longer) → IsBytePrefix text longer
  begins w bytes more [] text ns longer h k = after_stop w bytes more text ns longer h k
  begins w bytes more (m ∷ ms) text [] longer h k = absurd (no_stop db (bytes ++ more) m (h.after ++ more) longer (Begins-append db bytes m h.after more h.begins) k)
  begins w bytes more (m ∷ ms) text (n ∷ ns) longer h k =
      let one = two_messages db (bytes ++ more) m n (h.after ++ more) k.after (Begins-append db bytes m h.after more h.begins) k.begins in
      let reply = one_reply w n.request n.body h.answer k.answer h.mid k.mid (rw one.0 at h.handled) k.handled in
      let first : text_of m.omits_body h.answer ≡ text_of n.omits_body k.answer = ap (λ (t : Message). text_of t.omits_body h.answer) one.0 ∙ ap (text_of n.omits_body) reply.0 in
      let tail : IsBytePrefix h.later k.later = elim h.others_follow [
        | inl c ↦ (k.later, rw c.2 refl)
        | inr c ↦ elim k.others_follow [
          | inl d ↦ let e : true ≡ false = sym d.0 ∙ sym (ap (λ (t : Message). t.closes) one.0) ∙ c.0 in cc
          | inr d ↦ begins h.mid h.after more ms h.later ns k.later c.1 (rw (← reply.1, ← one.1) at d.1)
        ]
      ] in (
        tail.0,
        ap (λ (t : List ℕ). t ++ tail.0) h.text_is ∙ append_assoc (text_of m.omits_body h.answer) h.later tail.0 ∙ ap (λ (t : List ℕ). text_of m.omits_body h.answer ++ t) tail.1
            ∙ ap (λ (t : List ℕ). t ++ k.later) first ∙ sym k.text_is,
      )
