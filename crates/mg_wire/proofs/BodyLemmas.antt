-- From what the state machine says of each read to how far a request was read.
use Rattle.std.proofs.Common.{◌≡◌, ◌≢◌, ℕ, ◌+◌, ◌<◌, ◌≤◌, Bool, true, false, not, ◌&&◌, ◌==◌, List, [], ◌++◌, length, map, drop, append_assoc, append-nil, length-append, length-drop, sym, refl, ap, ◌∙◌, subst, subst₂, ◌-◌, arith}
use Rattle.std.proofs.lemmas.List.{drop-drop}
use Rattle.httparse.specs.Grammar.{RequestHead}
use Rattle.httparse.specs.Spans.{span_bytes}
use Rattle.httparse.specs.declared.spans.Span.{Span}
use Rattle.httparse.specs.declared.spans.HeaderSpan.{HeaderSpan}
use Rattle.httparse.specs.declared.spans.RequestSpans.{RequestSpans}
use Rattle.httparse.proofs.GrammarLemmas.{request_unique}
use Rattle.http1.specs.declared.conn.Event.{Event}
use Rattle.http1.specs.declared.conn.Event.TheVariants.{NeedMore, Head, Informational, Data, End, Paused, Upgraded, Closed}
use Rattle.http1.specs.declared.conn.Progress.{Progress}
use Rattle.http1.specs.declared.conn.Reading.{Reading}
use Rattle.http1.specs.declared.conn.Reading.TheVariants as Reads
use Rattle.http1.specs.declared.conn.Writing.{Writing}
use Rattle.http1.specs.declared.conn.Writing.TheVariants as Writes
use Rattle.http1.specs.declared.decode.Decoder.{Decoder}
use Rattle.http1.specs.declared.decode.Decoder.TheVariants.{UntilClose}
use Rattle.http1.specs.declared.server.Server.{Server}
use Rattle.http1.specs.Body.{Body, body_of}
use Rattle.http1.specs.Decoder.{decoder_for, Completes, with_front, Runs, Continues, Starves, Ends}
use Rattle.http1.specs.Message as Wire
use Rattle.http1.specs.Conn.{ReadsPiece}
use Rattle.http1.specs.declared.conn.BodySize.TheVariants.{Known}
use Rattle.http1.specs.declared.error.ReadError.{ReadError}
use Rattle.http1.specs.Conn.{unread_size, is_read}
use Rattle.http1.specs.ReadError.{BodyError}
use Rattle.http1.specs.Server.{reading, writing, has_codings, peer_method, peer_minor, cycle_at, after_piece, ReadsInBody, ReadsAt, ServerReads, RefusesAt, ServerRefuses}
use Rattle.http1.specs.declared.decode.Decoder.TheVariants as Coded
use Rattle.http1.specs.declared.framing.Framing.{Framing}
use Rattle.http1.specs.Body.{ReadsBody}
use Rattle.http1.specs.Framing.{method_kind, request_framing}
use Rattle.http1.specs.Message.{known_of, AcceptsRequest, ReadsRequestMessage}
use Rattle.http1.proofs.OneParse.{body_from_completes, completes_from_body}
use Rattle.mg_wire.specs.declared.request.Field.{Field}
use Rattle.mg_wire.specs.declared.body.Begun.{Begun}
use Rattle.mg_wire.specs.declared.bounds.Bounds.{Bounds}
use Rattle.mg_wire.specs.Request.{field_parts}
use Rattle.mg_wire.specs.Refusal.{IsEach, HasNoEnd}
use Rattle.mg_wire.specs.declared.body.TheConstants.{MAX_FIELDS}
use Rattle.mg_wire.specs.Body.{HasNoMessage, KeepsHead, Serves, IsBegun, IsWhole}

stays_sized : (old new : Decoder) (input : List ℕ) (len : ℕ) (piece : List ℕ) → Runs old input new len piece → old ≢ UntilClose → new ≢ UntilClose
stays_sized (Coded.Length left) new input len piece r sized = λ e. let same : Coded.Length (left - len) ≡ UntilClose = sym r ∙ e in cc
stays_sized (Coded.Chunked chunks max_len) new input len piece r sized = λ e. let same : Coded.Chunked r.0 max_len ≡ UntilClose = sym r.1 ∙ e in cc
stays_sized UntilClose new input len piece r sized = absurd (sized refl)

-- a read in the body leaves the rest of the server as it was
record Follows (s new : Server) (next : Reading) : Type 0 where
  reads_next : reading new ≡ next
  writes_next : writing new ≡ Writes.Head
  method : peer_method new ≡ peer_method s
  minor : peer_minor new ≡ peer_minor s
  stays : new.request.keep_alive ≡ s.request.keep_alive
  continued : next ≡ Reads.Done → new.request.expects_continue ≡ false

follows_at : (w : Writing) (s t : Server) (next : Reading) → w ≡ Writes.Head → writing t ≡ Writes.Head → reading t ≡ next
    → peer_method t ≡ peer_method s → peer_minor t ≡ peer_minor s → t.request.keep_alive ≡ s.request.keep_alive
    → (next ≡ Reads.Done → t.request.expects_continue ≡ false) → Follows s (cycle_at w t) next
follows_at Writes.Head s t next is a b c d e f =
    record { reads_next = b; writes_next = a; method = c; minor = d; stays = e; continued = f }
follows_at (Writes.Body k) s t next is a b c d e f = cc
follows_at Writes.Done s t next is a b c d e f = cc
follows_at Writes.Upgraded s t next is a b c d e f = cc
follows_at Writes.Closed s t next is a b c d e f = cc

neither : (a b : Bool) → (a && (b && false)) ≡ false
neither true true = refl
neither true false = refl
neither false b = refl

follows : (s new : Server) (input : List ℕ) (next : Reading) → writing s ≡ Writes.Head → new ≡ after_piece s input next → Follows s new next
follows s new input next is same =
    subst (λ (t : Server). Follows s t next) (sym same) (follows_at (writing s) s _ next is is refl refl refl refl
    (λ done. subst (λ (r : Reading). (s.request.expects_continue && ((length input == 0) && not (is_read r))) ≡ false) (sym done) (neither _ _)))

serves_on : (h : RequestHead) (b n : Begun) (next : Reading) → Serves h b → Follows b.server n.server next → KeepsHead h n → Serves h n
serves_on h b n next x y keeps = record {
  method = y.method ∙ x.method;
  minor = y.minor ∙ x.minor;
  writing_is = y.writes_next;
  stays = y.stays ∙ x.stays;
  proper = x.proper;
  keeps = keeps;
}

sized_is : (d : Decoder) (len : ℕ) → unread_size (Reads.Body d) ≡ Known len → d ≡ Coded.Length len
sized_is (Coded.Length left) len is = cc
sized_is (Coded.Chunked chunks max_len) len is = cc
sized_is UntilClose len is = cc

module _ (bounds : Bounds) (input : List ℕ) (b : Begun) (x : IsBegun bounds input b) where
  -- each request that the input may become has the head that was read, and a body that begins with what was read
  request_is : (more : List ℕ) (m : Wire.Request) (rest : List ℕ) → ReadsRequestMessage bounds.limits (input ++ more) m rest
      → (m.head ≡ x.head) × (body : Body) × (m.body ≡ with_front b.request.body.items body) × Completes x.decoder (drop b.at input ++ more) body rest
  request_is more m rest r =
      let first = x.accepts more in
      let head = request_unique (input ++ more) m.head x.head r.after_head (x.after ++ more) r.head.reads first.reads in
      let framed = sym r.head.framed ∙ ap (λ (h : RequestHead). request_framing (method_kind h.method) h.minor (known_of h.fields)) head.0 ∙ first.framed in
      let framing : r.framing ≡ x.framing = cc in
      let body = subst₂ (λ (f : Framing) (s : List ℕ). ReadsBody bounds.limits f s m.body rest) framing head.1 r.body in
      let back = x.forth more m.body rest (completes_from_body bounds.limits x.framing _ m.body rest body) in
      (head.0, back.0, back.1, back.2)

  each_of : (P : Wire.Request → Type 0)
      → ((more : List ℕ) (m : Wire.Request) (rest : List ℕ) → ReadsRequestMessage bounds.limits (input ++ more) m rest → P m) → IsEach bounds.limits input P
  each_of P each = record {
    head = x.head;
    framing = x.framing;
    after = x.after;
    accepts = subst₂ (λ (s r : List ℕ). AcceptsRequest bounds.limits s x.head x.framing r) (append-nil input) (append-nil x.after) (x.accepts []);
    each = each;
  }

  -- the length that the head states is too large
  pub states_too_much : (len max : ℕ) → unread_size (reading b.server) ≡ Known len → max < len → IsEach bounds.limits input (λ m. max < length m.body.bytes)
  states_too_much len max is big =
      let sized = sized_is x.decoder len (subst (λ (r : Reading). unread_size r ≡ Known len) x.reading_is is) in
      each_of _ (λ more m rest r.
      let q = request_is more m rest r in
      let z = subst (λ (d : Decoder). Completes d (drop b.at input ++ more) q.1 rest) sized q.3 in
      let l : length m.body.bytes ≡ length b.request.body.items + len =
      ap (λ (k : Body). length k.bytes) q.2 ∙ length-append b.request.body.items q.1.bytes ∙ ap (λ (k : ℕ). length b.request.body.items + k) z.0 in
      omega (arith, l, big))

  -- the body is in a coding that the server does not know
  pub is_coded : has_codings b.server ≡ (known_of x.head.fields).other_coding → has_codings b.server ≡ true
      → IsEach bounds.limits input (λ m. (known_of m.head.fields).other_coding ≡ true)
  is_coded coded is =
      each_of _ (λ more m rest r. ap (λ (h : RequestHead). (known_of h.fields).other_coding) (request_is more m rest r).0 ∙ sym coded ∙ is)

  -- the body cannot be read on
  pub body_refused : (unread : List ℕ) (room : ℕ) (e : ReadError) → unread ≡ drop b.at input → room ≡ MAX_FIELDS
      → ServerRefuses b.server unread room e → HasNoEnd bounds.limits input e
  body_refused unread room e rest is found =
      let at = subst (λ (r : Reading). RefusesAt r b.server.limits unread room e) x.reading_is found in (
        each_of _ (λ more m rest_of r.
            let q = request_is more m rest_of r in
            let z = subst (λ (u : List ℕ). Completes x.decoder (u ++ more) q.1 rest_of) (sym rest) q.3 in
            subst (λ (k : ℕ). k < length m.body.trailers) is (subst (λ (k : Body). room < length k.trailers) (sym q.2) (at.0 more q.1 rest_of z))),
        (x.decoder, unread, subst (λ (k : ℕ). BodyError x.decoder unread k e) is at.1),
      )

  -- a piece of the body makes it too large
  pub piece_too_large : (spans : List HeaderSpan) (new : Server) (read : Progress RequestSpans) (unread : List ℕ) (s : Span) (max : ℕ) → unread ≡ drop b.at input
      → ServerReads b.server unread spans new read → read.event ≡ Data s → max - length b.request.body.items < length (span_bytes unread s)
      → IsEach bounds.limits input (λ m. max < length m.body.bytes)
  piece_too_large spans new read unread s max rest found is big =
      let here = subst (λ (u : List ℕ). ServerReads b.server u spans new read) rest found in
      let inside : ReadsInBody x.decoder b.server (drop b.at input) spans new read =
      subst (λ (r : Reading). ReadsAt r b.server (drop b.at input) spans new read) x.reading_is here in
      let p = subst (λ (v : Event RequestSpans). ReadsPiece x.decoder (drop b.at input) spans inside.0 read.consumed v) is inside.1 in
      let size = subst (λ (u : List ℕ). max - length b.request.body.items < length (span_bytes u s)) rest big in
      each_of _ (λ more m rest_of r.
      let q = request_is more m rest_of r in
      let f = p.4.forth more q.1 rest_of q.3 in
      let whole : length m.body.bytes ≡ length b.request.body.items + length q.1.bytes =
      ap (λ (k : Body). length k.bytes) q.2 ∙ length-append b.request.body.items q.1.bytes in
      let later : length q.1.bytes ≡ length (span_bytes (drop b.at input) s) + length f.0.bytes =
      ap (λ (k : Body). length k.bytes) f.1 ∙ length-append (span_bytes (drop b.at input) s) f.0.bytes in
      omega (arith, whole, later, size))

module _ (bounds : Bounds) (input : List ℕ) (b n : Begun) (x : IsBegun bounds input b) where
  front_twice : (body : Body) (piece : List ℕ) → with_front b.request.body.items (with_front piece body) ≡ with_front (b.request.body.items ++ piece) body
  front_twice body piece = ap (λ (bytes : List ℕ). body_of bytes body.trailers) (sym (append_assoc b.request.body.items piece body.bytes))

  drop_at : (len : ℕ) → n.at ≡ b.at + len → drop len (drop b.at input) ≡ drop n.at input
  drop_at len at = drop-drop len b.at input ∙ ap (λ (k : ℕ). drop k input) (sym at)

  goes_on : (new : Decoder) (len : ℕ) (piece : List ℕ) → Continues x.decoder (drop b.at input) new len piece → n.at ≡ b.at + len
      → n.request.body.items ≡ b.request.body.items ++ piece → KeepsHead x.head n → Follows b.server n.server (Reads.Body new)
      → length n.request.body.items ≤ bounds.max_body → IsBegun bounds input n
  goes_on new len piece c at got asked y fits = record {
    head = x.head;
    framing = x.framing;
    decoder = new;
    after = x.after;
    accepts = x.accepts;
    serves = serves_on x.head b n (Reads.Body new) x.serves y asked;
    reading_is = y.reads_next;
    within = omega (arith, x.within, c.within, length-drop b.at input, at);
    moved = omega (arith, x.moved, at);
    back = λ more body rest z.
        let here : drop n.at input ≡ drop len (drop b.at input) = sym (drop_at len at) in
        let z1 = subst (λ (u : List ℕ). Completes new (u ++ more) body rest) here z in
        let z2 = x.back more (with_front piece body) rest (c.back more body rest z1) in
        subst (λ (whole : Body). Completes (decoder_for bounds.limits x.framing) (x.after ++ more) whole rest)
        (front_twice body piece ∙ ap (λ (g : List ℕ). with_front g body) (sym got)) z2;
    forth = λ more whole rest z.
        let here : drop n.at input ≡ drop len (drop b.at input) = sym (drop_at len at) in
        let f = x.forth more whole rest z in
        let g = c.forth more f.0 rest f.2 in (
          g.0,
          f.1 ∙ ap (with_front b.request.body.items) g.1 ∙ front_twice g.0 piece ∙ ap (λ (k : List ℕ). with_front k g.0) (sym got),
          subst (λ (u : List ℕ). Completes new (u ++ more) g.0 rest) (sym here) g.2,
        );
    sized = stays_sized x.decoder new (drop b.at input) len piece c.runs x.sized;
    fits = fits;
  }

  ends : (spans : List HeaderSpan) (len count : ℕ) → Ends x.decoder (drop b.at input) spans len count → len ≤ length (drop b.at input) → n.at ≡ b.at + len
      → n.request.body.items ≡ b.request.body.items → KeepsHead x.head n → Follows b.server n.server Reads.Done → IsWhole bounds input n
  ends spans len count e fits at got asked y = record {
    message = record { head = x.head; body = with_front b.request.body.items (body_of [] e.trailers) };
    reads = λ more. record {
      framing = x.framing;
      after_head = x.after ++ more;
      head = x.accepts more;
      body =
          let here : drop len (drop b.at input) ≡ drop n.at input = drop_at len at in
          body_from_completes bounds.limits x.framing _ _ _
          (subst (λ (u : List ℕ). Completes (decoder_for bounds.limits x.framing) (x.after ++ more) (with_front b.request.body.items (body_of [] e.trailers)) (u ++ more)) here
          (x.back more (body_of [] e.trailers) _ (e.completes more)));
    };
    asked = record { head = asked.asked; body = got ∙ sym (append-nil b.request.body.items) };
    serves = serves_on x.head b n Reads.Done x.serves y asked;
    reading_is = y.reads_next;
    continued = y.continued refl;
    fits = omega (arith, x.fits, ap length got);
    within = omega (arith, x.within, fits, length-drop b.at input, at);
    moved = omega (arith, x.moved, at);
  }

  in_body : (spans : List HeaderSpan) (new : Server) (read : Progress RequestSpans) → ServerReads b.server (drop b.at input) spans new read
      → ReadsInBody x.decoder b.server (drop b.at input) spans new read
  in_body spans new read = subst (λ (r : Reading). ReadsAt r b.server (drop b.at input) spans new read) x.reading_is

  module _ (same : (h : RequestHead) → KeepsHead h b → KeepsHead h n) (spans : List HeaderSpan) (read : Progress RequestSpans) (unread : List ℕ) (rest : unread ≡ drop b.at input) (found : ServerReads b.server unread spans n.server read) (at : n.at ≡ b.at + read.consumed) where
    abbrev inside : ReadsInBody x.decoder b.server (drop b.at input) spans n.server read
    inside = in_body spans n.server read (subst (λ (u : List ℕ). ServerReads b.server u spans n.server read) rest found)

    abbrev head_kept : KeepsHead x.head n
    head_kept = same x.head x.serves.keeps

    abbrev Piece : Event RequestSpans → Type 0
    Piece event = ReadsPiece x.decoder (drop b.at input) spans inside.0 read.consumed event

    kept : {next : Reading} → inside.0 ≡ next → Follows b.server n.server next
    kept {next} is = subst (λ (r : Reading). Follows b.server n.server r) is (follows b.server n.server (drop b.at input) inside.0 x.serves.writing_is inside.2)

    pub data_read : (s : Span) → read.event ≡ Data s → n.request.body.items ≡ b.request.body.items ++ span_bytes unread s
        → length (span_bytes unread s) ≤ bounds.max_body - length b.request.body.items → IsBegun bounds input n × (b.at < n.at)
    data_read s is got small =
        let p : Piece (Data s) = subst Piece is inside.1 in
        let here : n.at ≡ b.at + s.end = at ∙ ap (λ (k : ℕ). b.at + k) p.2 in (
          goes_on p.0 s.end (span_bytes (drop b.at input) s) p.4 here (got ∙ ap (λ (u : List ℕ). b.request.body.items ++ span_bytes u s) rest) head_kept (kept p.1)
              (omega (arith, x.fits, small, ap length got, length-append b.request.body.items (span_bytes unread s))),
          omega arith,
        )

    pub end_read : (count : ℕ) → read.event ≡ End count → read.consumed ≤ length unread → n.request.body.items ≡ b.request.body.items → IsWhole bounds input n × (b.at ≤ n.at)
    end_read count is fits got =
        let p : Piece (End count) = subst Piece is inside.1 in
        (ends spans read.consumed count p.1 (subst (λ (u : List ℕ). read.consumed ≤ length u) rest fits) at got head_kept (kept p.0), omega arith)

    pub data_moves : (s : Span) → read.event ≡ Data s → 0 < read.consumed
    data_moves s is = let p : Piece (Data s) = subst Piece is inside.1 in omega (arith, p.2, p.3)

    starves : (new : Decoder) → Starves x.decoder (drop b.at input) new read.consumed → HasNoMessage bounds.limits input
    starves new p m rest r =
        let q = request_is bounds input b x [] m rest (subst (λ (s : List ℕ). ReadsRequestMessage bounds.limits s m rest) (sym (append-nil input)) r) in
        p.unfinished x.sized q.1 rest (subst (λ (v : List ℕ). Completes x.decoder v q.1 rest) (append-nil (drop b.at input)) q.3)

    waits_at : (event : Event RequestSpans) → ((s : Span) → event ≢ Data s) → ((k : ℕ) → event ≢ End k) → n.request.body.items ≡ b.request.body.items → Piece event → IsBegun bounds input n × HasNoMessage bounds.limits input
    waits_at NeedMore f g got p = (goes_on p.0 read.consumed [] p.2.continues at (got ∙ sym (append-nil b.request.body.items)) head_kept (kept p.1) (omega (arith, x.fits, ap length got)), starves p.0 p.2)
    waits_at (Head r) f g got p = absurd p
    waits_at (Informational r) f g got p = absurd p
    waits_at (Data s) f g got p = absurd (f s refl)
    waits_at (End k) f g got p = absurd (g k refl)
    waits_at Paused f g got p = absurd p
    waits_at Upgraded f g got p = absurd p
    waits_at Closed f g got p = absurd p

    pub wait_read : ((s : Span) → read.event ≢ Data s) → ((k : ℕ) → read.event ≢ End k) → n.request.body.items ≡ b.request.body.items → IsBegun bounds input n × HasNoMessage bounds.limits input
    wait_read f g got = waits_at read.event f g got inside.1

pub same_head : (b n : Begun) → n.request.method ≡ b.request.method → n.request.target ≡ b.request.target → n.request.minor ≡ b.request.minor
    → n.request.fields.items ≡ b.request.fields.items → n.expects_continue ≡ b.expects_continue → (h : RequestHead) → KeepsHead h b → KeepsHead h n
same_head b n m t v f e h k = record {
  asked = record {
    method = m ∙ k.asked.method;
    target = t ∙ k.asked.target;
    minor = v ∙ k.asked.minor;
    fields = ap (λ (xs : List Field). map field_parts xs) f ∙ k.asked.fields;
  };
  expects = e ∙ k.expects;
}
