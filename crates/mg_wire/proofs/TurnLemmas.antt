-- One more turn.
use Rattle.std.proofs.Common.{◌≡◌, ◌⊎◌, ◌↔◌, IsTrue, IsFalse, ℕ, ◌≤◌, Bool, true, false, not, ◌&&◌, List, [], ◌∷◌, ◌++◌, length, drop, Option, Some, None, append_assoc, append-nil, sym, refl, ap, ◌∙◌, subst, subst₂, inl, inr, if◌then◌else◌}
use Rattle.std.proofs.lemmas.List.Elements.{All-push}
use Rattle.httparse.specs.Grammar.{RequestHead}
use Rattle.http1.specs.declared.framing.Framing.{Framing}
use Rattle.http1.specs.declared.framing.Framing.TheVariants as Framed
use Rattle.http1.specs.declared.framing.MethodKind.{MethodKind}
use Rattle.http1.specs.Body.{body_of}
use Rattle.http1.specs.Encoder.{encoder_for, body_text}
use Rattle.http1.specs.Framing.{method_kind}
use Rattle.http1.specs.Head.{response_text, response_head}
use Rattle.http1.specs.Message as Wire
use Rattle.http1.specs.Conn.{keeps_alive}
use Rattle.http1.specs.Fields.{known_fields}
use Rattle.http1.specs.Message.{AcceptsRequest, ReadsRequestMessage, ReadsResponseMessage}
use Rattle.http1.specs.declared.server.Server.{Server}
use Rattle.http1.specs.Server.{is_head, peer_minor, IsClosed}
use Rattle.http1.proofs.BodyRoundTrip.{MayFollow}
use Rattle.http1.proofs.HeadRoundTrip.{response_reads_back}
use Rattle.http1.proofs.MessageRoundTrip.{response_round_trip}
use Rattle.mg_wire.specs.declared.response.Response.{Response}
use Rattle.mg_wire.specs.declared.body.Begun.{Begun}
use Rattle.mg_wire.specs.declared.bounds.Bounds.{Bounds}
use Rattle.mg_wire.specs.declared.connection.Connection.{Connection}
use Rattle.mg_wire.specs.declared.connection.Ending.{Ending}
use Rattle.mg_wire.specs.declared.connection.Ending.TheVariants.{Closed}
use Rattle.mg_wire.specs.Response.{content_of, fields_of}
use Rattle.mg_wire.specs.Body.{Serves, IsWhole}
use Rattle.mg_wire.specs.Reply.{size_for, Heads}
use Rattle.mg_wire.specs.Status.{code_of}
use Rattle.mg_wire.specs.Transcript.{Call, Spells, interim_for, Turn, IsTranscript, keeps_open, KeepsOpen}
use Rattle.mg_wire.specs.Connection.{received, sent, pending, said, StandsAt, Stands, Holds, IsSilent, IsDue}
use Rattle.mg_wire.proofs.HoldLemmas.{received_same, sent_same}

-- whatever follows, the grammar gives the same requests
pub snoc : (bounds : Bounds) (stream : List ℕ) (cs : List Call) (text rest : List ℕ) (c : Call) (first after : List ℕ)
    → IsTranscript bounds stream cs text rest → Turn bounds rest c first after → IsTranscript bounds stream (cs ++ c ∷ []) (text ++ first) after
snoc bounds stream [] text rest c first after x t =
    (first, after, [], ap (λ (u : List ℕ). u ++ first) x.1 ∙ sym (append-nil first), subst (λ (u : List ℕ). Turn bounds u c first after) (sym x.0) t, (refl, refl))
snoc bounds stream (d ∷ cs) text rest c first after x t =
    (x.0, x.1, x.2 ++ first, ap (λ (u : List ℕ). u ++ first) x.3 ∙ append_assoc x.0 x.2 first, x.4, snoc bounds x.1 cs x.2 rest c first after x.5 t)

turn_grows : (bounds : Bounds) (stream : List ℕ) (c : Call) (text rest more : List ℕ) → Turn bounds stream c text rest → Turn bounds (stream ++ more) c text (rest ++ more)
turn_grows bounds stream c text rest more t = record {
  message = t.message;
  reads = λ later. subst₂ (λ (s r : List ℕ). ReadsRequestMessage bounds.limits s t.message r) (sym (append_assoc stream more later)) (sym (append_assoc rest more later)) (t.reads (more ++ later));
  proper = t.proper;
  fits = t.fits;
  asked = t.asked;
  response = t.response;
  spells = t.spells;
  joined = t.joined;
}

pub grows : (bounds : Bounds) (stream : List ℕ) (cs : List Call) (text rest more : List ℕ) → IsTranscript bounds stream cs text rest → IsTranscript bounds (stream ++ more) cs text (rest ++ more)
grows bounds stream [] text rest more x = (ap (λ (u : List ℕ). u ++ more) x.0, x.1)
grows bounds stream (c ∷ cs) text rest more x =
    (x.0, x.1 ++ more, x.2, x.3, turn_grows bounds stream c x.0 x.1 more x.4, grows bounds x.1 cs x.2 rest more x.5)

nothing_follows : (f : Framing) → MayFollow f []
nothing_follows Framed.NoBody = tt
nothing_follows (Framed.Length n) = tt
nothing_follows Framed.Chunked = tt
nothing_follows Framed.UntilClose = refl

module _ (b : Begun) (a : Response) (sent_bytes : ℕ) (old new : List ℕ) (next : Server) (h : Heads b.server (code_of a.status) (fields_of a) (length (content_of a)) sent_bytes old new next) (piece : List ℕ) (len : length piece ≡ sent_bytes) where
  abbrev head_text : List ℕ
  head_text = response_text (peer_minor b.server) (code_of a.status) h.reason (fields_of a ++ h.plan.extra)

  abbrev rest_text : List ℕ
  rest_text = body_text (piece ∷ []) (encoder_for h.plan.framing) []

  -- a client reads the head and the body back
  pub spells : (m : Wire.Request) → Serves m.head b → piece ≡ (if is_head (method_kind m.head.method) then [] else content_of a) → Spells m.head a (head_text ++ rest_text)
  spells m s is =
      let fields = fields_of a ++ h.plan.extra in
      let minor = peer_minor b.server in
      let back = response_reads_back minor (code_of a.status) h.reason fields [] h.valid in
      let message : Wire.Response = record { head = response_head minor (code_of a.status) h.reason fields; body = body_of (piece ++ []) [] } in
      record {
        message = message;
        reads = λ limits fits short.
            subst₂ (λ (k : MethodKind) (t : List ℕ). ReadsResponseMessage limits k (head_text ++ t) message []) s.method (append-nil rest_text)
            (response_round_trip limits (size_for (length (content_of a))) (fields_of a) h.plan (piece ∷ []) [] [] (h.whole piece len).1 short (nothing_follows h.plan.framing)
            b.server (code_of a.status) h.reason h.planned h.valid fits);
        status = back.code;
        added = h.plan.extra;
        own = h.own;
        fields = back.fields;
        body = append-nil piece ∙ is;
      }

  -- the connection stays open where both ask for it
  pub stays : (m : RequestHead) → Serves m b → b.server.request.expects_continue ≡ false → h.plan.keep_alive ≡ keeps_open (b.request, a)
  stays m s continued =
      h.keeps continued
      ∙ (λ i. s.stays i && not (known_fields (fields_of a)).close)
      ∙ (λ i. keeps_alive (sym s.keeps.asked.minor i) (known_fields (sym s.keeps.asked.fields i)) && not (known_fields (fields_of a)).close)

joined : (s o tail text interim head rest new p : List ℕ) → s ++ (o ++ tail) ≡ text ++ interim → tail ≡ [] → p ≡ new → new ≡ o ++ head ++ rest → s ++ p ≡ text ++ (interim ++ (head ++ rest))
joined s o tail text interim head rest new p x y z w =
    let bare : s ++ o ≡ text ++ interim = ap (λ (u : List ℕ). s ++ u) (sym (append-nil o) ∙ ap (λ (u : List ℕ). o ++ u) (sym y)) ∙ x in
    ap (λ (u : List ℕ). s ++ u) (z ∙ w ∙ append_assoc o head rest) ∙ sym (append_assoc s o (head ++ rest)) ∙ ap (λ (u : List ℕ). u ++ (head ++ rest)) bare ∙ append_assoc text interim (head ++ rest)

module _ (c n : Connection) (b : Begun) (a : Response) (due : IsDue c b a) (quiet : IsSilent c n) where
  same_stream : (cs : List Call) (text rest : List ℕ) → IsTranscript c.bounds (received c) cs text rest → IsTranscript n.bounds (received n) cs text rest
  same_stream cs text rest = subst₂ (λ (k : Bounds) (stream : List ℕ). IsTranscript k stream cs text rest) (sym quiet.bounds) (sym (received_same c n quiet))

  -- the response is sent
  pub replies : (out : List ℕ) (sent_bytes : ℕ) (next : Server) (piece : List ℕ) → Heads b.server (code_of a.status) (fields_of a) (length (content_of a)) sent_bytes c.output.items out next
      → piece ≡ (if is_head (method_kind due.message.head.method) then [] else content_of a) → length piece ≡ sent_bytes
      → n.calls ≡ c.calls → n.input.items ≡ c.input.items → pending n ≡ out ++ piece
      → ((n.end ≡ None) × (n.begun ≡ None) × (¬ (IsClosed next))) ⊎ ((n.end ≡ Some Closed) × IsClosed next) → Holds n
  replies out sent_bytes next piece heads is len calls input pends how =
      let answer = head_text b a sent_bytes c.output.items out next heads piece len ++ rest_text b a sent_bytes c.output.items out next heads piece len in
      let all = interim_for b.expects_continue ++ answer in
      let turn : Turn c.bounds due.rest (b.request, a) all c.input.items = record {
        message = due.message;
        reads = due.reads;
        proper = due.serves.proper;
        fits = due.fits;
        asked = due.asked;
        response = answer;
        spells = spells b a sent_bytes c.output.items out next heads piece len due.message due.serves is;
        joined = ap (λ (e : Bool). interim_for e ++ answer) due.serves.keeps.expects;
      } in
      let stays_is = stays b a sent_bytes c.output.items out next heads piece len due.message.head due.serves due.continued in
      let answered = due.answered ++ (b.request, a) ∷ [] in
      let counted : n.calls.items ≡ answered = (λ i. (calls i).items) ∙ due.calls in
      let text_is : said n ≡ due.text ++ all =
      ap (λ (s : List ℕ). s ++ pending n) (sent_same c n quiet)
      ∙ joined (sent c) c.output.items c.tail.items due.text (interim_for b.expects_continue) _ _ (out ++ piece) (pending n) due.out due.bare pends (heads.whole piece len).0 in
      let stands : Stands n.end n answered (due.text ++ all) c.input.items = elim how [
        | inl o ↦
            let kept = All-push KeepsOpen due.answered (b.request, a) due.kept (sym stays_is ∙ heads.goes_on o.2) in
            subst₂ (λ (s : Option Ending) (x : Option Begun). (y : Unit {0}) → Stands s n answered (due.text ++ all) c.input.items) (sym o.0) (sym o.1)
            (λ y. (counted, sym input, subst (λ (x : Option Begun). StandsAt x n (due.text ++ all)) (sym o.1) text_is, kept)) tt
        | inr k ↦ subst (λ (s : Option Ending). Stands s n answered (due.text ++ all) c.input.items) (sym k.0) (
          counted,
          text_is,
          record { before = due.answered; last = (b.request, a); calls = refl; closes = sym stays_is ∙ heads.closes k.1 },
        )
      ] in
      record {
        answered = answered;
        text = due.text ++ all;
        rest = c.input.items;
        transcript = same_stream _ _ _ (snoc c.bounds (received c) due.answered due.text due.rest (b.request, a) all c.input.items due.transcript turn);
        stands = stands;
      }

module _ (c m n : Connection) (b : Begun) (a : Response) (due : IsDue c b a) (only : m ≡ record c { output = m.output; tail = m.tail }) (next : Server)
    (settled : ((n ≡ m) × (¬ (IsClosed next))) ⊎ ((n ≡ record m { end = Some Closed; begun = None }) × IsClosed next)) where
  pub reply_ok : (out : List ℕ) (sent_bytes : ℕ) (piece : List ℕ) → Heads b.server (code_of a.status) (fields_of a) (length (content_of a)) sent_bytes c.output.items out next
      → piece ≡ (if is_head (method_kind b.request.method) then [] else content_of a) → length piece ≡ sent_bytes → pending m ≡ out ++ piece → Holds n
  reply_ok out sent_bytes piece heads is len pends =
      let silent : IsSilent c m = record { bounds = λ i. (only i).bounds; reads = λ i. (only i).reads; writes = λ i. (only i).writes } in
      let is_piece : piece ≡ (if is_head (method_kind due.message.head.method) then [] else content_of a) =
      is ∙ ap (λ (k : List ℕ). if is_head (method_kind k) then [] else content_of a) due.asked.head.method in
      elim settled [
        | inl e ↦ subst Holds (sym e.0) (replies c m b a due silent out sent_bytes next piece heads is_piece len (λ i. (only i).calls) (λ i. (only i).input.items) pends
            (inl ((λ i. (only i).end) ∙ due.goes_on, (λ i. (only i).begun) ∙ due.is_last, e.1)))
        | inr e ↦ subst Holds (sym e.0) (replies c (record m { end = Some Closed; begun = None }) b a due (record { bounds = silent.bounds; reads = silent.reads; writes = silent.writes })
            out sent_bytes next piece heads is_piece len (λ i. (only i).calls) (λ i. (only i).input.items) pends (inr (refl, e.1)))
      ]

-- the connection ends exactly if the server has closed
pub settles : (m n : Connection) (next : Server) (closes : Bool) → IsTrue closes ↔ IsClosed next
    → ((n ≡ m) × IsFalse closes) ⊎ ((n ≡ record m { end = Some Closed; begun = None }) × IsTrue closes)
    → ((n ≡ m) × (¬ (IsClosed next))) ⊎ ((n ≡ record m { end = Some Closed; begun = None }) × IsClosed next)
settles m n next true is (inl e) = let bad : true ≡ false = e.1 in cc
settles m n next true is (inr e) = inr (e.0, is.0 e.1)
settles m n next false is (inl e) = inl (e.0, λ closed. let bad : false ≡ true = is.1 closed in cc)
settles m n next false is (inr e) = let bad : false ≡ true = e.1 in cc

-- the service was asked, and its response is due
pub due_now : (c n : Connection) (b begun : Begun) (a : Response) → Holds (record c { begun = Some b }) → c.end ≡ None → c.begun ≡ None → c.tail.items ≡ []
    → IsWhole c.bounds c.input.items begun → begun.expects_continue ≡ b.expects_continue
    → n.bounds ≡ c.bounds → n.reads ≡ c.reads → n.writes ≡ c.writes → n.end ≡ c.end → n.begun ≡ c.begun → n.tail ≡ c.tail → n.output.items ≡ c.output.items
    → n.calls.items ≡ c.calls.items ++ (begun.request, a) ∷ [] → n.input.items ≡ drop begun.at c.input.items → IsDue n begun a
due_now c n b begun a h goes_on none bare w same bounds reads writes state first tail out calls input =
    let o : Stands None (record c { begun = Some b }) h.answered h.text h.rest = subst (λ (s : Option Ending). Stands s (record c { begun = Some b }) h.answered h.text h.rest) goes_on h.stands in
    let quiet : IsSilent c n = record { bounds = bounds; reads = reads; writes = writes } in
    record {
      answered = h.answered;
      text = h.text;
      rest = h.rest;
      transcript = subst₂ (λ (k : Bounds) (stream : List ℕ). IsTranscript k stream h.answered h.text h.rest) (sym bounds) (sym (received_same c n quiet)) h.transcript;
      out = subst₂ (λ (s p : List ℕ). s ++ p ≡ h.text ++ interim_for begun.expects_continue) (sym (sent_same c n quiet)) (λ i. sym out i ++ (sym tail i).items)
          (o.2.1 ∙ ap (λ (e : Bool). h.text ++ interim_for e) (sym same));
      message = w.message;
      reads = subst (λ (k : Bounds). (more : List ℕ) → ReadsRequestMessage k.limits (h.rest ++ more) w.message (n.input.items ++ more)) (sym bounds)
          (subst₂ (λ (s r : List ℕ). (more : List ℕ) → ReadsRequestMessage c.bounds.limits (s ++ more) w.message (r ++ more)) (sym o.1) (sym input) w.reads);
      asked = w.asked;
      serves = w.serves;
      continued = w.continued;
      fits = subst (λ (k : Bounds). length begun.request.body.items ≤ k.max_body) (sym bounds) w.fits;
      kept = o.3;
      calls = calls ∙ ap (λ (cs : List Call). cs ++ (begun.request, a) ∷ []) o.0;
      bare = (λ i. (tail i).items) ∙ bare;
      goes_on = state ∙ goes_on;
      is_last = first ∙ none;
    }
