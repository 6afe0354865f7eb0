-- From what the state machine says of each write to what is sent of a response.
use Rattle.std.proofs.Common.{◌≡◌, ℕ, zero, suc, ◌+◌, ◌-◌, ◌<◌, ◌≤◌, ◌^◌, Bool, true, false, not, ◌&&◌, ◌||◌, nat_lt, nat_le, if◌then◌else◌, List, [], ◌∷◌, ◌++◌, length, append_assoc, append-nil, Option, Some, None, Result, Ok, Err, IsOk, MatchOption, sym, refl, ap, ◌∙◌, subst, subst₂, cond, eqb, length-append, inl, inr, arith}
use Rattle.std.specs.Prelude.{codes}
use Rattle.std.proofs.lemmas.Bool.{and_parts, and_from, eqb-true, leb-true}
use Rattle.std.proofs.lemmas.Bool.Decides.{nat_tests}
use Rattle.std.specs.List.{list_all}
use Rattle.httparse.specs.Ascii.{crlf_bytes}
use Rattle.http1.specs.declared.conn.BodySize.{BodySize}
use Rattle.http1.specs.declared.conn.Writing.{Writing}
use Rattle.http1.specs.declared.conn.Writing.TheVariants as Writes
use Rattle.http1.specs.declared.encode.Encoder.{Encoder}
use Rattle.http1.specs.declared.encode.Encoder.TheVariants.{Length, Chunked, UntilClose}
use Rattle.http1.specs.declared.error.WriteError.{WriteError}
use Rattle.http1.specs.declared.error.WriteError.TheVariants.{InvalidStartLine, InvalidHeader, BodyTooLong, BodyTooShort}
use Rattle.http1.specs.declared.framing.Framing.{Framing}
use Rattle.http1.specs.declared.framing.Framing.TheVariants.{NoBody, Length as Sized}
use Rattle.http1.specs.declared.server.Server.{Server}
use Rattle.http1.specs.Fields.{Header, known_fields}
use Rattle.http1.specs.Framing.{is_bodiless_status}
use Rattle.http1.specs.Head.{is_field_value, are_headers, is_status_line, head_refusal, status_digits, response_text}
use Rattle.http1.specs.Output.{GivesOrRefuses}
use Rattle.http1.specs.Encoder.{encoder_for, prefix_for, after_piece, piece_refusal, end_text, end_refusal, body_text}
use Rattle.http1.specs.Conn.{is_connect, is_read, Plan, plan_refusal, planned_headers, data_refusal, data_prefix, after_data, finish_refusal, finish_text}
use Rattle.http1.specs.Server.{new_server, closed_server, may_respond, after_end, IsClosed, response_plan, response_refusal, planned_response, responding, after_response, writing, with_writing, is_head, peer_method, peer_minor}
use Rattle.http1.proofs.HeadLemmas.{are_headers-append, length-section_text, response_text_is}
use Rattle.http_server.proofs.PlanLemmas.{plan_for_size}
use Rattle.mg_wire.specs.declared.status.Status.{Status}
use Rattle.mg_wire.specs.declared.status.Status.TheVariants as Is
use Rattle.mg_wire.specs.Reply.{size_for, Heads}
use Rattle.mg_wire.specs.Sendable.{are_sendable, lines_len, is_own}
use Rattle.mg_wire.specs.Status.{code_of, has_content, reason_of}
use Rattle.mg_wire.proofs.PlanLemmas.{IsFinal, is_bare, final_for, Plans, plans, unmodified}
use Rattle.mg_wire.proofs.SendableLemmas.{not_true, headers_of}

gave : {T : Type 0} (r : Option WriteError) (spare len : ℕ) (x : T) → GivesOrRefuses r spare len (Ok x) → r ≡ None
gave None spare len x h = refl
gave (Some e) spare len x h = cc

took : {T : Type 0} (r : Option WriteError) (x : T) → MatchOption r (IsOk {E = WriteError} (Ok x)) (λ e. Ok x ≡ Err e) → r ≡ None
took None x h = refl
took (Some e) x h = cc

plan_ok : (planned : Result Plan WriteError) (line : Bool) (fields : List Header) → plan_refusal planned line fields ≡ None → (p : Plan) × (planned ≡ Ok p) × (head_refusal line (fields ++ p.extra) ≡ None)
plan_ok (Ok p) line fields h = (p, refl, h)
plan_ok (Err e) line fields h = cc

no_frame : (b : Bool) (size : List ℕ) → cond b [] (size ++ crlf_bytes) ≡ [] → b ≡ true
no_frame true size h = refl
no_frame false size h = absurd (let n : length (size ++ crlf_bytes) ≡ 0 = ap length h in omega (arith, simp length-append at n))

framed : (x : ℕ) (xs : List ℕ) → prefix_for Chunked (length (x ∷ xs)) ≡ [] → ⊥
framed x xs h = let none : eqb (length (x ∷ xs)) 0 ≡ true = no_frame _ _ h in grind arith

-- an end that needs no frame may go before the piece, since it is empty then
ordered : (e : Encoder) (piece : List ℕ) → prefix_for e (length piece) ≡ [] → end_text (after_piece e (length piece)) [] ++ piece ≡ body_text (piece ∷ []) e []
ordered (Length left) piece h = sym (append-nil (piece ++ []) ∙ append-nil piece)
ordered Chunked [] h = append-nil _
ordered Chunked (x ∷ xs) h = absurd (framed x xs h)
ordered UntilClose piece h = sym (append-nil (piece ++ []) ∙ append-nil piece)

-- a server that has sent its response closes exactly if the connection does not stay open
abbrev sent_all : Server → Server
sent_all t = with_writing t Writes.Done

not_closed : (r : Bool) (a b : Server) → writing a ≡ Writes.Head → writing b ≡ Writes.Done → writing (cond r a b) ≡ Writes.Closed → ⊥
not_closed true a b x y z = let bad : Writes.Head ≡ Writes.Closed = sym x ∙ z in cc
not_closed false a b x y z = let bad : Writes.Done ≡ Writes.Closed = sym y ∙ z in cc

abbrev after_at : Bool → Server → Server
after_at k t = cond k (cond (is_read t.reading) (new_server t.limits) (sent_all t)) (closed_server (sent_all t))

closes_at : (k : Bool) (t : Server) → t.request.keep_alive ≡ k → IsClosed (after_end t) → k ≡ false
closes_at false t is closed = refl
closes_at true t is closed =
    absurd (not_closed (is_read t.reading) (new_server t.limits) (sent_all t) refl refl
    (subst (λ (k : Bool). writing (after_at k t) ≡ Writes.Closed) is closed))

opens_at : (k : Bool) (t : Server) → t.request.keep_alive ≡ k → ¬ (IsClosed (after_end t)) → k ≡ true
opens_at true t is goes_on = refl
opens_at false t is goes_on = absurd (goes_on (subst (λ (k : Bool). writing (after_at k t) ≡ Writes.Closed) (sym is) refl))

passes : (a b c : Bool) (x y : WriteError) (other : Result Plan WriteError) (p : Plan)
    → cond a (Err x) (cond (b || c) (Err y) other) ≡ Ok p → (c ≡ false) × (other ≡ Ok p)
passes true b c x y other p e = cc
passes false true c x y other p e = cc
passes false false true x y other p e = cc
passes false false false x y other p e = (refl, e)

keeps_of : (s : Server) (status len : ℕ) (fields : List Header) (p : Plan) → response_plan s status (size_for len) fields ≡ Ok p
    → s.request.expects_continue ≡ false → p.keep_alive ≡ (s.request.keep_alive && not (known_fields fields).close)
keeps_of s status len fields p planned continued =
    let tests = passes (not (may_respond s)) (nat_lt status 200) _ _ _ _ p planned in
    (plan_for_size s.request status len fields p tests.0 tests.1).0.keeps continued

module _ (s one two three : Server) (status body_len sent : ℕ) (fields : List Header) (reason out0 out1 out2 : List ℕ) where
  pub heads : {T F : Type 0} (size : BodySize) (spare len spare2 len2 : ℕ) (x : T) (f : F) → size ≡ size_for body_len
      → GivesOrRefuses (response_refusal s status reason size fields) spare len (Ok x)
      → out1 ≡ out0 ++ planned_response s status reason size fields
      → one ≡ after_response s status size fields
      → MatchOption (data_refusal (writing one) sent) (IsOk {E = WriteError} (Ok f)) (λ e. Ok f ≡ Err e)
      → data_prefix (writing one) sent ≡ []
      → two ≡ with_writing one (after_data (writing one) sent)
      → GivesOrRefuses (finish_refusal (writing two) []) spare2 len2 (Ok x)
      → out2 ≡ out1 ++ finish_text (writing two) []
      → three ≡ after_end two
      → sent < 2 ^ 64
      → ((q : Plan) → response_plan s status (size_for body_len) fields ≡ Ok q → list_all is_own q.extra ≡ true)
      → Heads s status fields body_len sent out0 out2 three
  heads size spare len spare2 len2 x f sized given written after framed prefix counted last ended then_is fits owned =
      let first = subst (λ (z : BodySize). GivesOrRefuses (response_refusal s status reason z fields) spare len (Ok x)) sized given in
      let wrote = written ∙ ap (λ (z : BodySize). out0 ++ planned_response s status reason z fields) sized in
      let next = after ∙ ap (λ (z : BodySize). after_response s status z fields) sized in
      let planned = plan_ok (response_plan s status (size_for body_len) fields) (is_status_line (peer_minor s) status reason) fields (gave _ spare len x first) in
      let p = planned.0 in
      let e = encoder_for p.framing in
      let head = response_text (peer_minor s) status reason (fields ++ p.extra) in
      let wrote_head : out1 ≡ out0 ++ head =
      wrote ∙ ap (λ (r : Result Plan WriteError). out0 ++ response_text (peer_minor s) status reason (planned_headers r fields)) planned.1 in
      let now : writing one ≡ Writes.Body e = ap writing next ∙ ap (λ (r : Result Plan WriteError). writing (responding s r)) planned.1 in
      let later : writing two ≡ Writes.Body (after_piece e sent) = ap writing counted ∙ ap (λ (w : Writing). after_data w sent) now in
      let refuses : piece_refusal e sent ≡ None = subst (λ (w : Writing). data_refusal w sent ≡ None) now (took _ f framed) in
      let bare : prefix_for e sent ≡ [] = subst (λ (w : Writing). data_prefix w sent ≡ []) now prefix in
      let done : end_refusal (after_piece e sent) [] ≡ None = subst (λ (w : Writing). finish_refusal w [] ≡ None) later (gave _ spare2 len2 x last) in
      let out : out2 ≡ (out0 ++ head) ++ end_text (after_piece e sent) [] = ended ∙ subst₂ (λ (o : List ℕ) (w : Writing). out1 ++ finish_text (writing two) [] ≡ o ++ finish_text w []) wrote_head later refl in
      let kept : two.request.keep_alive ≡ p.keep_alive =
      ap (λ (t : Server). t.request.keep_alive) counted ∙ ap (λ (t : Server). t.request.keep_alive) next
      ∙ ap (λ (r : Result Plan WriteError). (responding s r).request.keep_alive) planned.1 in
      record {
        plan = p;
        reason = reason;
        own = owned p planned.1;
        planned = planned.1;
        valid = planned.2;
        whole = λ piece is. (
          ap (λ (o : List ℕ). o ++ piece) out ∙ append_assoc (out0 ++ head) (end_text (after_piece e sent) []) piece
              ∙ ap (λ (t : List ℕ). (out0 ++ head) ++ t)
              (subst (λ (n : ℕ). end_text (after_piece e n) [] ++ piece ≡ body_text (piece ∷ []) e []) is
              (ordered e piece (subst (λ (n : ℕ). prefix_for e n ≡ []) (sym is) bare))),
          subst (λ (n : ℕ). (n < 2 ^ 64) × (piece_refusal e n ≡ None) × (end_refusal (after_piece e n) [] ≡ None)) (sym is) (fits, refuses, done),
        );
        keeps = keeps_of s status body_len fields p planned.1;
        closes = λ closed. closes_at p.keep_alive two kept (subst IsClosed then_is closed);
        goes_on = λ goes_on. opens_at p.keep_alive two kept (λ closed. goes_on (subst IsClosed (sym then_is) closed));
      }

-- the facts that a head with this status asks for
abbrev is_fine : Status → Bool
is_fine status =
    let code = code_of status in
    (not (nat_lt code 200) && (not (eqb code 204) && not (eqb code 205)))
    && ((nat_le 100 code && nat_le code 999) && (is_field_value (reason_of status) && nat_le (length (reason_of status)) 32))

fine : (status : Status) → is_fine status ≡ true
fine Is.Ok = refl
fine Is.Created = refl
fine Is.Accepted = refl
fine Is.NotModified = refl
fine Is.BadRequest = refl
fine Is.Unauthorized = refl
fine Is.Forbidden = refl
fine Is.NotFound = refl
fine Is.MethodNotAllowed = refl
fine Is.NotAcceptable = refl
fine Is.Conflict = refl
fine Is.PreconditionFailed = refl
fine Is.ContentTooLarge = refl
fine Is.UnsupportedMediaType = refl
fine Is.InternalServerError = refl
fine Is.NotImplemented = refl
fine Is.ServiceUnavailable = refl

-- exactly 304 has no content
bodiless : (status : Status) → (is_bodiless_status (code_of status) ≡ not (has_content status)) × (eqb (code_of status) 304 ≡ not (has_content status))
bodiless Is.Ok = (refl, refl)
bodiless Is.Created = (refl, refl)
bodiless Is.Accepted = (refl, refl)
bodiless Is.NotModified = (refl, refl)
bodiless Is.BadRequest = (refl, refl)
bodiless Is.Unauthorized = (refl, refl)
bodiless Is.Forbidden = (refl, refl)
bodiless Is.NotFound = (refl, refl)
bodiless Is.MethodNotAllowed = (refl, refl)
bodiless Is.NotAcceptable = (refl, refl)
bodiless Is.Conflict = (refl, refl)
bodiless Is.PreconditionFailed = (refl, refl)
bodiless Is.ContentTooLarge = (refl, refl)
bodiless Is.UnsupportedMediaType = (refl, refl)
bodiless Is.InternalServerError = (refl, refl)
bodiless Is.NotImplemented = (refl, refl)
bodiless Is.ServiceUnavailable = (refl, refl)

record IsFine (status : Status) : Type 0 where
  late : nat_lt (code_of status) 200 ≡ false
  some : eqb (code_of status) 204 ≡ false
  shown : eqb (code_of status) 205 ≡ false
  low : nat_le 100 (code_of status) ≡ true
  high : nat_le (code_of status) 999 ≡ true
  reason : is_field_value (reason_of status) ≡ true
  short : length (reason_of status) ≤ 32

fine_parts : (status : Status) → IsFine status
fine_parts status =
    let p = and_parts _ _ (fine status) in
    let a = and_parts _ _ p.0 in
    let b = and_parts _ _ a.1 in
    let q = and_parts _ _ p.1 in
    let d = and_parts _ _ q.0 in
    let f = and_parts _ _ q.1 in
    record { late = not_true _ a.0; some = not_true _ b.0; shown = not_true _ b.1; low = d.0; high = d.1; reason = f.0; short = leb-true _ _ f.1 }

final : (status : Status) → has_content status ≡ true → IsFinal (code_of status)
final status is =
    let f = fine_parts status in
    record {
      late = f.late;
      some = f.some;
      shown = f.shown;
      changed = (bodiless status).1 ∙ ap not is;
      bodied = (bodiless status).0 ∙ ap not is;
      low = f.low;
      high = f.high;
    }

one_at_most : (minor : ℕ) → minor ≤ 1 → nat_le minor 1 ≡ true
one_at_most zero h = refl
one_at_most (suc zero) h = refl
one_at_most (suc (suc minor)) h = absurd (omega arith)

text_fits : (minor status : ℕ) (reason : List ℕ) (fields extra : List Header) → length reason ≤ 32 → lines_len fields ≤ 7717 → lines_len extra ≤ 62
    → length (response_text minor status reason (fields ++ extra)) ≤ 8192
text_fits minor status reason fields extra a b c =
    let line = codes "HTTP/1." ++ ((48 + minor) ∷ 32 ∷ (status_digits status ++ (32 ∷ (reason ++ (13 ∷ 10 ∷ []))))) in
    let first : length line ≡ 15 + length reason = omega (arith, length-append {A = ℕ}) in
    omega (arith, ap length (response_text_is minor status reason (fields ++ extra)), length-section_text line fields extra, first, a, b, c)

fit_at : (b : Bool) (n : ℕ) → (piece_refusal (encoder_for (cond b NoBody (Sized n))) (cond b 0 n) ≡ None)
    × (prefix_for (encoder_for (cond b NoBody (Sized n))) (cond b 0 n) ≡ [])
    × (end_refusal (after_piece (encoder_for (cond b NoBody (Sized n))) (cond b 0 n)) [] ≡ None)
    × (end_text (after_piece (encoder_for (cond b NoBody (Sized n))) (cond b 0 n)) [] ≡ [])
fit_at true n = (refl, refl, refl, refl)
fit_at false n =
    let never : nat_lt n n ≡ false = grind (arith, nat_tests) in
    let none : n - n ≡ 0 = omega arith in
    (λ i. cond (never i) (Some BodyTooLong) None, refl, (λ i. cond (nat_lt 0 (none i)) (Some BodyTooShort) None), refl)

-- the server awaits a response, and these fields and so long a body are given
pub record MayReply (s : Server) (status : Status) (n sent : ℕ) (fields : List Header) : Type 0 where
  pub awaits : may_respond s ≡ true
  pub no_tunnel : is_connect (peer_method s) ≡ false
  pub minor : peer_minor s ≤ 1
  pub sendable : are_sendable fields ≡ true
  pub short : lines_len fields ≤ 7717
  pub small : n < 2 ^ 64
  pub content : has_content status ≡ false → n ≡ 0
  pub is_sent : sent ≡ (if is_head (peer_method s) then 0 else n)

-- what is sent of a content: nothing of none
sent_at : (h c b : Bool) (n : ℕ) → b ≡ not c → (c ≡ false → n ≡ 0) → (if h then 0 else n) ≡ (if h || b then 0 else n)
sent_at true c b n is none = refl
sent_at false true b n is none = λ i. cond (sym is i) 0 n
sent_at false false b n is none = none refl ∙ (λ i. cond (sym is i) 0 n)

-- no response is refused
module _ (s : Server) (status : Status) (n sent : ℕ) (fields : List Header) (m : MayReply s status n sent fields) where
  plans_at : (b : Bool) → has_content status ≡ b → Plans s (code_of status) n fields
  plans_at true is = plans s (code_of status) n fields m.awaits m.no_tunnel (final status is) m.small m.sendable
  plans_at false is =
      subst₂ (λ (k j : ℕ). Plans s k j fields) (sym (eqb-true (code_of status) 304 ((bodiless status).1 ∙ ap not is))) (sym (m.content is))
      (unmodified s fields m.awaits m.no_tunnel m.sendable)

  abbrev p : Plans s (code_of status) n fields
  p = plans_at (has_content status) refl

  abbrev bare : Bool
  bare = is_bare (peer_method s) (code_of status)

  abbrev body : Writing
  body = Writes.Body (encoder_for (final_for (peer_method s) (code_of status) n))

  is_sent : sent ≡ (if bare then 0 else n)
  is_sent = m.is_sent ∙ sent_at (is_head (peer_method s)) (has_content status) (is_bodiless_status (code_of status)) n (bodiless status).0 m.content

  line : is_status_line (peer_minor s) (code_of status) (reason_of status) ≡ true
  line =
      let f = fine_parts status in
      and_from _ _ (one_at_most (peer_minor s) m.minor) (and_from _ _ f.low (and_from _ _ f.high f.reason))

  -- the connection adds no other fields than its own
  pub own_fields : (code : ℕ) → code ≡ code_of status → (q : Plan) → response_plan s code (size_for n) fields ≡ Ok q → list_all is_own q.extra ≡ true
  own_fields code is q planned =
      let both : ◌≡◌ {A = Result Plan WriteError} (Ok p.plan) (Ok q) = sym p.planned ∙ (λ i. response_plan s (sym is i) (size_for n) fields) ∙ planned in
      let same : p.plan ≡ q = cc in
      subst (λ (x : Plan). list_all is_own x.extra ≡ true) same p.own

  not_refused : response_refusal s (code_of status) (reason_of status) (size_for n) fields ≡ None
  not_refused =
      let valid : are_headers (fields ++ p.plan.extra) ≡ true = are_headers-append fields p.plan.extra ∙ and_from _ _ (headers_of fields m.sendable) p.valid in
      (λ i. plan_refusal (p.planned i) (is_status_line (peer_minor s) (code_of status) (reason_of status)) fields)
      ∙ (λ i. cond (line i) (cond (valid i) None (Some InvalidHeader)) (Some InvalidStartLine))

  head_fits : length (planned_response s (code_of status) (reason_of status) (size_for n) fields) ≤ 8192
  head_fits =
      subst (λ (q : Result Plan WriteError). length (response_text (peer_minor s) (code_of status) (reason_of status) (planned_headers q fields)) ≤ 8192) (sym p.planned)
      (text_fits (peer_minor s) (code_of status) (reason_of status) fields p.plan.extra (fine_parts status).short m.short p.short)

  writes_body : (one : Server) → one ≡ after_response s (code_of status) (size_for n) fields → writing one ≡ body
  writes_body one is =
      ap writing is ∙ ap (λ (q : Result Plan WriteError). writing (responding s q)) p.planned ∙ ap (λ (f : Framing). Writes.Body (encoder_for f)) p.framing

  module _ (code : ℕ) (reason : List ℕ) (size : BodySize) (code_is : code ≡ code_of status) (reason_is : reason ≡ reason_of status) (size_is : size ≡ size_for n) where
    pub not_refused_as : response_refusal s code reason size fields ≡ None
    not_refused_as = (λ i. response_refusal s (code_is i) (reason_is i) (size_is i) fields) ∙ not_refused

    pub head_fits_as : length (planned_response s code reason size fields) ≤ 8192
    head_fits_as =
        subst (λ (k : ℕ). k ≤ 8192) (sym (λ i. length (planned_response s (code_is i) (reason_is i) (size_is i) fields))) head_fits

    pub writes_as : (one : Server) → one ≡ after_response s code size fields → writing one ≡ body
    writes_as one is = writes_body one (is ∙ (λ i. after_response s (code_is i) (size_is i) fields))

  pub not_too_long : (one : Server) → writing one ≡ body → data_refusal (writing one) sent ≡ None
  not_too_long one is =
      (λ i. data_refusal (is i) (is_sent i)) ∙ (fit_at bare n).0

  pub bare_frame : (one : Server) → writing one ≡ body → data_prefix (writing one) sent ≡ []
  bare_frame one is = (λ i. data_prefix (is i) (is_sent i)) ∙ (fit_at bare n).1

  writes_end : (one two : Server) → writing one ≡ body → two ≡ with_writing one (after_data (writing one) sent)
      → writing two ≡ Writes.Body (after_piece (encoder_for (final_for (peer_method s) (code_of status) n)) (if bare then 0 else n))
  writes_end one two is counted = ap writing counted ∙ (λ i. after_data (is i) (is_sent i))

  pub not_too_short : (one two : Server) → writing one ≡ body → two ≡ with_writing one (after_data (writing one) sent)
      → finish_refusal (writing two) [] ≡ None
  not_too_short one two is counted =
      ap (λ (w : Writing). finish_refusal w []) (writes_end one two is counted) ∙ (fit_at bare n).2

  pub end_fits : (one two : Server) → writing one ≡ body → two ≡ with_writing one (after_data (writing one) sent)
      → finish_text (writing two) [] ≡ []
  end_fits one two is counted =
      ap (λ (w : Writing). finish_text w []) (writes_end one two is counted) ∙ (fit_at bare n).3

-- a write that is not refused, and has the room, does not fail
pub no_failure : (T : Type 0) (r : Option WriteError) (spare len : ℕ) (e : WriteError) → r ≡ None → GivesOrRefuses {T = T} r spare len (Err e) → len ≤ spare → len ≤ 8192 → ⊥
no_failure T None spare len e is given fits small = elim given.1 [ inl x ↦ omega arith | inr x ↦ omega arith ]
no_failure T (Some x) spare len e is given fits small = cc

pub no_frame_failure : (F : Type 0) (r : Option WriteError) (e : WriteError) → r ≡ None → MatchOption r (IsOk {T = F} {E = WriteError} (Err e)) (λ x. ◌≡◌ {A = Result F WriteError} (Err e) (Err x)) → ⊥
no_frame_failure F None e is found = cc
no_frame_failure F (Some x) e is found = cc
