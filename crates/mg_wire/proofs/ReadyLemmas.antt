-- A server that awaits a response awaits it after each read.
use Rattle.std.proofs.Common.{◌≡◌, ℕ, ◌≤◌, Bool, true, false, List, sym, refl, ap, ◌∙◌, subst}
use Rattle.std.proofs.lemmas.Bool.{and_parts, and_from}
use Rattle.httparse.specs.declared.spans.HeaderSpan.{HeaderSpan}
use Rattle.httparse.specs.declared.spans.RequestSpans.{RequestSpans}
use Rattle.http1.specs.declared.conn.Event.{Event}
use Rattle.http1.specs.declared.conn.Event.TheVariants.{NeedMore, Head, Informational, Data, End, Paused, Upgraded, Closed}
use Rattle.http1.specs.declared.conn.Progress.{Progress}
use Rattle.http1.specs.declared.conn.Reading.{Reading}
use Rattle.http1.specs.declared.conn.Reading.TheVariants as Reads
use Rattle.http1.specs.declared.conn.Writing.{Writing}
use Rattle.http1.specs.declared.conn.Writing.TheVariants as Writes
use Rattle.http1.specs.declared.decode.Decoder.{Decoder}
use Rattle.http1.specs.declared.server.Server.{Server}
use Rattle.http1.specs.declared.error.ReadError.{ReadError}
use Rattle.http1.specs.Conn.{is_connect, awaits_head, ReadsPiece}
use Rattle.http1.specs.Framing.{method_kind}
use Rattle.http1.specs.Server.{is_head, peer_method, peer_minor, cycle_at, after_piece, may_respond, has_request, failed_server, ReadsAt, ServerReads}
use Rattle.mg_wire.specs.declared.body.Begun.{Begun}

-- the server awaits a response to a request of HTTP/1.x that is no `CONNECT`; `head`: it is a `HEAD`
pub record IsReady (head : Bool) (s : Server) : Type 0 where
  pub awaits : may_respond s ≡ true
  pub no_tunnel : is_connect (peer_method s) ≡ false
  pub same_method : is_head (peer_method s) ≡ head
  pub minor : peer_minor s ≤ 1

ready_like : (head : Bool) (s new : Server) → IsReady head s → new.writing ≡ s.writing → has_request new.reading ≡ true → peer_method new ≡ peer_method s
    → peer_minor new ≡ peer_minor s → IsReady head new
ready_like head s new x writes reads method minor = record {
  awaits = and_from _ _ (ap awaits_head writes ∙ (and_parts _ _ x.awaits).0) reads;
  no_tunnel = ap is_connect method ∙ x.no_tunnel;
  same_method = ap is_head method ∙ x.same_method;
  minor = subst (λ (k : ℕ). k ≤ 1) (sym minor) x.minor;
}

has_next : {H : Type 0} (d : Decoder) (input : List ℕ) (spans : List HeaderSpan) (next : Reading) (len : ℕ) (event : Event H)
    → ReadsPiece d input spans next len event → has_request next ≡ true
has_next d input spans next len NeedMore p = ap has_request p.1
has_next d input spans next len (Head r) p = absurd p
has_next d input spans next len (Informational r) p = absurd p
has_next d input spans next len (Data s) p = ap has_request p.1
has_next d input spans next len (End k) p = ap has_request p.0
has_next d input spans next len Paused p = absurd p
has_next d input spans next len Upgraded p = absurd p
has_next d input spans next len Closed p = absurd p

is_awaited : (w : Writing) → awaits_head w ≡ true → w ≡ Writes.Head
is_awaited Writes.Head e = refl
is_awaited (Writes.Body k) e = cc
is_awaited Writes.Done e = cc
is_awaited Writes.Upgraded e = cc
is_awaited Writes.Closed e = cc

ready_piece : (head : Bool) (s new : Server) (input : List ℕ) (next : Reading) → IsReady head s → has_request next ≡ true → new ≡ after_piece s input next → IsReady head new
ready_piece head s new input next x reads same =
    let w = is_awaited s.writing (and_parts _ _ x.awaits).0 in
    let kept = same ∙ cycle_head s.writing w _ in
    ready_like head s new x (ap (λ (t : Server). t.writing) kept) (ap (λ (t : Server). has_request t.reading) kept ∙ reads) (ap peer_method kept) (ap peer_minor kept)
  where
    cycle_head : (w : Writing) → w ≡ Writes.Head → (t : Server) → cycle_at w t ≡ t
    cycle_head w is t = ap (λ (v : Writing). cycle_at v t) is

ready_at : (head : Bool) (r : Reading) (s new : Server) (input : List ℕ) (spans : List HeaderSpan) (read : Progress RequestSpans) → IsReady head s → has_request r ≡ true
    → ReadsAt r s input spans new read → IsReady head new
ready_at head Reads.Head s new input spans read x has found = cc
ready_at head (Reads.Body d) s new input spans read x has found =
    ready_piece head s new input found.0 x (has_next d input spans found.0 read.consumed read.event found.1) found.2
ready_at head Reads.Done s new input spans read x has found = subst (IsReady head) (sym found.1) x
ready_at head Reads.Upgraded s new input spans read x has found = subst (IsReady head) (sym found.1) x
ready_at head Reads.Closed s new input spans read x has found = subst (IsReady head) (sym found.1) x
ready_at head (Reads.Failed e) s new input spans read x has found = absurd found

-- a read leaves it so
pub ready_read : (head : Bool) (s new : Server) (input : List ℕ) (spans : List HeaderSpan) (read : Progress RequestSpans) → IsReady head s → ServerReads s input spans new read → IsReady head new
ready_read head s new input spans read x found = ready_at head s.reading s new input spans read x (and_parts _ _ x.awaits).1 found

pub ready_failed : (head : Bool) (s new : Server) (e : ReadError) → IsReady head s → new ≡ failed_server s e → IsReady head new
ready_failed head s new e x same =
    ready_like head s new x (ap (λ (t : Server). t.writing) same) (ap (λ (t : Server). has_request t.reading) same) (ap peer_method same) (ap peer_minor same)

-- the server of a request that has begun
pub ready_begun : (b : Begun) → IsReady (is_head (method_kind b.request.method)) b.server
ready_begun b = record { awaits = b.awaits; no_tunnel = b.no_tunnel; same_method = b.same_method; minor = b.minor }
