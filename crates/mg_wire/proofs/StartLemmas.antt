-- From what the state machine says of a head to the request that begins.
use Rattle.std.proofs.Common.{◌≡◌, ◌≢◌, ℕ, ◌<◌, ◌≤◌, Bool, true, false, ◌&&◌, cond, Some, None, List, ◌++◌, length, drop, length-append, sym, refl, ap, ◌∙◌, subst, Result, Ok, nat_lt, arith}
use Rattle.httparse.specs.Grammar.{RequestHead, print_request, HasNoRequest, MayBecomeRequest}
use Rattle.httparse.specs.Spans.{span_bytes}
use Rattle.httparse.specs.declared.spans.HeaderSpan.{HeaderSpan}
use Rattle.httparse.specs.declared.spans.RequestSpans.{RequestSpans}
use Rattle.httparse.proofs.GrammarLemmas.{ReadsRequest-append, request_unique}
use Rattle.http1.specs.declared.conn.Limits.{Limits}
use Rattle.http1.specs.declared.conn.Event.{Event}
use Rattle.http1.specs.declared.conn.Event.TheVariants.{NeedMore, Head, Informational, Data, End, Paused, Upgraded, Closed}
use Rattle.http1.specs.declared.conn.Progress.{Progress}
use Rattle.http1.specs.declared.decode.Decoder.TheVariants.{UntilClose}
use Rattle.http1.specs.declared.server.Server.{Server}
use Rattle.http1.specs.Decoder.{decoder_for, Completes, with_front}
use Rattle.http1.specs.declared.error.ReadError.{ReadError}
use Rattle.http1.specs.declared.framing.FramingError.{FramingError}
use Rattle.http1.specs.Conn.{is_connect}
use Rattle.http1.specs.ReadError.{RequestError}
use Rattle.http1.specs.Server as Http
use Rattle.http1.specs.Server.{new_server, reading, writing, expects_continue, has_codings, peer_method, peer_minor, ReadsHead, ServerReads, TakesHead, ServerRefuses}
use Rattle.http1.specs.declared.framing.Framing.{Framing}
use Rattle.http1.specs.declared.framing.Framing.TheVariants as Framed
use Rattle.http1.specs.Framing.{method_kind}
use Rattle.http1.specs.Message.{known_of, AcceptsRequest}
use Rattle.http1.proofs.FramingFacts.{request_has_an_end}
use Rattle.mg_wire.specs.declared.body.Begun.{Begun}
use Rattle.mg_wire.specs.Request.{HasHeadAt, has_content}
use Rattle.mg_wire.specs.declared.bounds.Bounds.{Bounds}
use Rattle.mg_wire.specs.declared.refusal.Refusal.{Refusal}
use Rattle.mg_wire.specs.declared.refusal.Refusal.TheVariants.{InvalidTarget, Tunnel}
use Rattle.mg_wire.specs.Target.{is_target_for, IsProper}
use Rattle.mg_wire.specs.Refusal.{BeginsRequest, IsEach, HasNoHead, Refuses, line_refusal}
use Rattle.mg_wire.specs.declared.body.TheConstants.{MAX_FIELDS}
use Rattle.mg_wire.specs.Body.{HasNoMessage, AwaitsHead, IsBegun, IsFresh, IsWhole}

head_has_bytes : (h : RequestHead) → 0 < length (print_request h)
unfolding print_request
head_has_bytes h = simp length-append (omega arith)

no_head : (s new : Server) (input : List ℕ) (spans : List HeaderSpan) (len : ℕ) (event : Event RequestSpans)
    → ((r : RequestSpans) → event ≢ Head r) → ReadsHead s input spans new len event
    → HasNoRequest input × (length input < s.limits.max_head_len) × MayBecomeRequest input
no_head s new input spans len NeedMore other found = (found.2, found.3, found.4)
no_head s new input spans len (Head r) other found = absurd (other r refl)
no_head s new input spans len (Informational r) other found = absurd found
no_head s new input spans len (Data x) other found = absurd found
no_head s new input spans len (End count) other found = absurd found
no_head s new input spans len Paused other found = absurd found
no_head s new input spans len Upgraded other found = absurd found
no_head s new input spans len Closed other found = absurd found

until_close : (limits : Limits) (f : Framing) → decoder_for limits f ≡ UntilClose → f ≡ Framed.UntilClose
until_close limits Framed.NoBody e = cc
until_close limits (Framed.Length n) e = cc
until_close limits Framed.Chunked e = cc
until_close limits Framed.UntilClose e = refl

module _ (bounds : Bounds) (input : List ℕ) (spans : List HeaderSpan) (new : Server) (len : ℕ) (r : RequestSpans)
    (t : TakesHead (new_server bounds.limits) input spans new len r) where
  accepts_more : (more : List ℕ) → AcceptsRequest bounds.limits (input ++ more) t.head t.framing (drop len input ++ more)
  accepts_more more = record {
    reads = ReadsRequest-append input t.head _ more t.accepts.reads;
    strict = t.accepts.strict;
    host = t.accepts.host;
    framed = t.accepts.framed;
  }

  pub begins_taken : BeginsRequest bounds.limits input
  begins_taken = record { head = t.head; accepts = λ more. (t.framing, drop len input ++ more, accepts_more more) }

  -- each request that the input may become has this head
  head_each : (P : RequestHead → Type 0) → P t.head → IsEach bounds.limits input (λ m. P m.head)
  head_each P p = record {
    head = t.head;
    framing = t.framing;
    after = drop len input;
    accepts = t.accepts;
    each = λ more m rest x.
        subst P (sym (request_unique (input ++ more) m.head t.head x.after_head (drop len input ++ more) x.head.reads (accepts_more more).reads).0) p;
  }

  line_at : (method target : List ℕ) → method ≡ span_bytes input r.method → target ≡ span_bytes input r.path
      → line_refusal method target ≡ line_refusal t.head.method t.head.target
  line_at method target m p = λ i. line_refusal ((m ∙ t.covered.method) i) ((p ∙ t.covered.path) i)

  pub line_refused : (method target : List ℕ) → method ≡ span_bytes input r.method → target ≡ span_bytes input r.path
      → (refusal : Refusal) → Some refusal ≡ line_refusal method target → (ended starved : Bool) → Refuses bounds ended starved input refusal
  line_refused method target m p refusal is ended starved =
      by_tests (is_connect (method_kind t.head.method)) (is_target_for t.head.method t.head.target) refl refl (is ∙ line_at method target m p)
    where
      by_tests : (a b : Bool) → is_connect (method_kind t.head.method) ≡ a → is_target_for t.head.method t.head.target ≡ b
          → Some refusal ≡ cond a (Some Tunnel) (cond b None (Some InvalidTarget)) → Refuses bounds ended starved input refusal
      by_tests true b x y e =
          let same : Tunnel ≡ refusal = cc in
          subst (Refuses bounds ended starved input) same (head_each (λ h. is_connect (method_kind h.method) ≡ true) x)
      by_tests false false x y e =
          let same : InvalidTarget ≡ refusal = cc in
          subst (Refuses bounds ended starved input) same (head_each (λ h. is_target_for h.method h.target ≡ false) y)
      by_tests false true x y e = cc

  pub line_proper : (method target : List ℕ) → method ≡ span_bytes input r.method → target ≡ span_bytes input r.path
      → None ≡ line_refusal method target → IsProper t.head
  line_proper method target m p is =
      by_tests (is_connect (method_kind t.head.method)) (is_target_for t.head.method t.head.target) refl refl (is ∙ line_at method target m p)
    where
      by_tests : (a b : Bool) → is_connect (method_kind t.head.method) ≡ a → is_target_for t.head.method t.head.target ≡ b
          → None ≡ cond a (Some Tunnel) (cond b None (Some InvalidTarget)) → IsProper t.head
      by_tests true b x y e = cc
      by_tests false false x y e = cc
      by_tests false true x y e = record { host = t.accepts.host; target = y; no_tunnel = x }

  pub begun : (b : Begun) → b.server ≡ new → b.at ≡ len → b.expects_continue ≡ expects_continue new → len ≤ length input
      → HasHeadAt input spans r b.request → IsProper t.head → IsFresh bounds input b
  begun b server at kept fits is proper =
      let next = server ∙ t.next in
      let first : IsBegun bounds input b = record {
        head = t.head;
        framing = t.framing;
        decoder = decoder_for bounds.limits t.framing;
        after = drop b.at input;
        accepts = λ more. subst (λ (k : ℕ). AcceptsRequest bounds.limits (input ++ more) t.head t.framing (drop k input ++ more)) (sym at) (accepts_more more);
        serves = record {
          method = ap peer_method next;
          minor = ap peer_minor next;
          writing_is = ap writing next;
          stays = ap (λ (s : Server). s.request.keep_alive) next;
          proper = proper;
          keeps = record {
            asked = record {
              method = is.method ∙ t.covered.method;
              target = is.target ∙ t.covered.path;
              minor = is.minor ∙ t.covered.version;
              fields = is.fields ∙ t.covered.fields;
            };
            expects = kept ∙ ap expects_continue t.next
                ∙ ap (λ (f : Result Framing FramingError). nat_lt 0 t.head.minor && ((known_of t.head.fields).expect_continue && has_content f)) (sym t.accepts.framed);
          };
        };
        reading_is = ap reading next;
        within = omega (arith, at, fits);
        moved = omega (arith, at, t.consumed, t.covered.len, head_has_bytes t.head);
        back = λ more body rest x. subst (λ (got : List ℕ). Completes (decoder_for bounds.limits t.framing) (drop b.at input ++ more) (with_front got body) rest) (sym is.body) x;
        forth = λ more whole rest x. (whole, ap (λ (got : List ℕ). with_front got whole) (sym is.body), x);
        sized = λ e. request_has_an_end _ _ _ (t.accepts.framed ∙ ap Ok (until_close bounds.limits t.framing e));
        fits = omega (arith, ap length is.body);
      } in
      record { begun = first; coded = ap has_codings next }

-- the input begins with the head of the request that has begun, or is whole
pub begins_begun : (bounds : Bounds) (input : List ℕ) (b : Begun) → IsBegun bounds input b → BeginsRequest bounds.limits input
begins_begun bounds input b x = record { head = x.head; accepts = λ more. (x.framing, x.after ++ more, x.accepts more) }

pub begins_whole : (bounds : Bounds) (input : List ℕ) (b : Begun) → IsWhole bounds input b → BeginsRequest bounds.limits input
begins_whole bounds input b w =
    record { head = w.message.head; accepts = λ more. let r = w.reads more in (r.framing, r.after_head, r.head) }

pub takes : (limits : Limits) (input : List ℕ) (spans : List HeaderSpan) (new : Server) (read : Progress RequestSpans) (r : RequestSpans)
    → ServerReads (new_server limits) input spans new read → read.event ≡ Head r → TakesHead (new_server limits) input spans new read.consumed r
takes limits input spans new read r found is = subst (ReadsHead (new_server limits) input spans new read.consumed) is found

-- no head is no request
no_message : (limits : Limits) (input : List ℕ) → HasNoRequest input → HasNoMessage limits input
no_message limits input none m rest r = none m.head r.after_head r.head.reads

-- no head is there yet
pub no_head_yet : (limits : Limits) (input : List ℕ) (spans : List HeaderSpan) (new : Server) (read : Progress RequestSpans)
    → ServerReads (new_server limits) input spans new read → ((r : RequestSpans) → read.event ≢ Head r) → AwaitsHead limits input
no_head_yet limits input spans new read found other =
    let none = no_head (new_server limits) new input spans read.consumed read.event other found in
    (no_message limits input none.0, none.2, none.1)

-- no head can be read
pub head_refused : (limits : Limits) (input : List ℕ) (room : ℕ) (e : ReadError) → room ≡ MAX_FIELDS → ServerRefuses (new_server limits) input room e → HasNoHead limits input e
head_refused limits input room e is found = (
  subst (λ (k : ℕ). Http.HasNoHead limits input k) is found.0,
  subst (λ (k : ℕ). RequestError limits.max_head_len input k e) is found.1,
)
