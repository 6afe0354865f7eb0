-- What `http1` plans for a response: it takes each that a service may give.
use Rattle.std.proofs.Common.{◌≡◌, ℕ, ◌+◌, ◌^◌, ◌<◌, ◌≤◌, min, Bool, true, false, not, cond, if◌then◌else◌, eqb, nat_lt, nat_le, ◌&&◌, ◌||◌, List, [], ◌∷◌, ◌++◌, length, map, fold, Ok, Err, length-append, append_assoc, append-nil, sym, refl, ap, ◌∙◌, subst, arith}
use Rattle.std.specs.Prelude.{codes}
use Rattle.std.specs.List.{list_all}
use Rattle.std.specs.Char.{digit_char}
use Rattle.std.specs.Int.Digits.{digits_of}
use Rattle.std.specs.Str.Parse.{digits_value}
use Rattle.std.proofs.lemmas.Bool.{and_parts, and_from, eq-eqb, eqb-true}
use Rattle.std.proofs.lemmas.List.{length-map}
use Rattle.std.proofs.lemmas.Int.Digits.{length-digits_of-le}
use Rattle.httparse.specs.Grammar.{is_token_byte}
use Rattle.http1.specs.declared.conn.BodySize.{BodySize}
use Rattle.http1.specs.declared.conn.BodySize.TheVariants.{Empty, Known}
use Rattle.http1.specs.declared.error.WriteError.TheVariants as Refusal
use Rattle.http1.specs.declared.fields.ContentLength.TheVariants as Length
use Rattle.http1.specs.declared.fields.TransferEncoding.TheVariants as Coding
use Rattle.http1.specs.declared.fields.KnownFields.{KnownFields}
use Rattle.http1.specs.declared.framing.Framing.{Framing}
use Rattle.http1.specs.declared.framing.Framing.TheVariants.{NoBody, Length as Sized, UntilClose}
use Rattle.http1.specs.declared.framing.FramingError.TheVariants.{UnexpectedTransferEncoding}
use Rattle.http1.specs.declared.framing.MethodKind.{MethodKind}
use Rattle.http1.specs.declared.framing.MethodKind.TheVariants as Method
use Rattle.http1.specs.declared.server.Request.{Request}
use Rattle.http1.specs.declared.server.Server.{Server}
use Rattle.http1.specs.Text.{eq_ignore_case, numeral}
use Rattle.http1.specs.Fields.{Header, elements, is_named, is_framing_field, known_fields, add_length, add_coding}
use Rattle.http1.specs.Framing.{by_fields, is_bodiless_status, response_framing}
use Rattle.http1.specs.Head.{are_headers}
use Rattle.http1.specs.Conn.{Plan, with_framing, states_framing, states_no_content, has_transfer_encoding, is_plain, fits, is_connect, is_empty, length_header, connection_header, size_headers}
use Rattle.http1.specs.Server.{is_head, is_sized, framing_headers, stays_open, connection_headers, plan_stated, plan_fields, response_plan, may_respond, peer_method}
use Rattle.http1.proofs.FieldsLemmas.{and_plain, known_fields_push}
use Rattle.http1.proofs.HeadLemmas.{are_headers-append}
use Rattle.http1.proofs.TextLemmas.{list_all-append}
use Rattle.http1.proofs.NumeralLemmas.{numeral_reads_back, decimal_is_number, decimal_is_plain, decimal_is_trimmed}
use Rattle.mg_wire.specs.Reply.{size_for}
use Rattle.mg_wire.specs.Sendable.{is_sendable, are_sendable, lines_len, is_own}
use Rattle.mg_wire.proofs.SendableLemmas.{unframing, lines_push}

-- no field states how long the body is
abbrev IsUnframed : KnownFields → Type 0
IsUnframed k = (k.content_length ≡ Length.Absent) × (k.transfer_encoding ≡ Coding.Absent) × (k.framing_fields ≡ 0) × (k.plain_framing ≡ true)

or_false : (a b : Bool) → (a || b) ≡ false → (a ≡ false) × (b ≡ false)
or_false true b e = cc
or_false false b e = (refl, e)

unframed_push : (hs : List Header) (h : Header) → is_framing_field h ≡ false → IsUnframed (known_fields hs) → IsUnframed (known_fields (hs ++ h ∷ []))
unframed_push hs h other x =
    let k = known_fields hs in
    let n = or_false (is_named (codes "content-length") h) (is_named (codes "transfer-encoding") h) other in
    subst IsUnframed (sym (known_fields_push hs h)) (
      (λ i. cond (n.0 i) (add_length k.content_length h.1) k.content_length) ∙ x.0,
      (λ i. cond (n.1 i) (fold add_coding k.transfer_encoding (elements h.1)) k.transfer_encoding) ∙ x.1,
      (λ i. cond (other i) (min (k.framing_fields + 1) 2) k.framing_fields) ∙ x.2,
      (λ i. and_plain k.plain_framing (n.0 i) (n.1 i) h.1) ∙ x.3,
    )

unframed_after : (later hs : List Header) → are_sendable later ≡ true → IsUnframed (known_fields hs) → IsUnframed (known_fields (hs ++ later))
unframed_after [] hs all x = rw append-nil x
unframed_after (h ∷ later) hs all x =
    let parts = and_parts (is_sendable h) (list_all is_sendable later) all in
    subst (λ (t : List Header). IsUnframed (known_fields t)) (append_assoc hs (h ∷ []) later)
    (unframed_after later (hs ++ h ∷ []) parts.1 (unframed_push hs h (unframing h parts.0) x))

unframed : (hs : List Header) → are_sendable hs ≡ true → IsUnframed (known_fields hs)
unfolding known_fields
unframed hs all = unframed_after hs [] all (refl, refl, refl, refl)

-- the fields state this length, in one way only
abbrev IsSized : ℕ → KnownFields → Type 0
IsSized n k = (k.content_length ≡ Length.Value n) × (k.transfer_encoding ≡ Coding.Absent) × (is_plain k ≡ true)

sized_push : (hs : List Header) (n : ℕ) → n < 2 ^ 64 → IsUnframed (known_fields hs) → IsSized n (known_fields (hs ++ length_header n ∷ []))
unfolding eq_ignore_case
sized_push hs n small x =
    let k = known_fields hs in
    let text = numeral 10 n in
    subst (IsSized n) (sym (known_fields_push hs (length_header n))) (
      ap (λ l. add_length l text) x.0
          ∙ (λ i. cond (decimal_is_number n small i) (Length.Value (digits_value 10 text)) Length.Invalid)
          ∙ ap Length.Value (numeral_reads_back 10 n (omega arith) (omega arith)).value,
      x.1,
      (λ i. nat_lt (min (x.2 i + 1) 2) 2 && (x.3 i && decimal_is_plain n small i)),
    )

-- the two summaries frame a body alike
abbrev FramesAlike : KnownFields → KnownFields → Type 0
FramesAlike j k = (j.content_length ≡ k.content_length) × (j.transfer_encoding ≡ k.transfer_encoding) × (is_plain j ≡ is_plain k)

connection_kept : (hs : List Header) (t : Bool) (option : List ℕ) → FramesAlike (known_fields (hs ++ cond t (connection_header option ∷ []) [])) (known_fields hs)
unfolding eq_ignore_case
connection_kept hs true option =
    let more = known_fields_push hs (connection_header option) in
    (ap (λ k. k.content_length) more, ap (λ k. k.transfer_encoding) more, ap is_plain more)
connection_kept hs false option = rw append-nil (refl, refl, refl)

told_alike : (r : Request) (k : KnownFields) (keep : Bool) (hs : List Header) → FramesAlike (known_fields (hs ++ connection_headers r k keep)) (known_fields hs)
told_alike r k true hs = connection_kept hs _ _
told_alike r k false hs = connection_kept hs _ _

-- the fields that `http1` adds can be sent, are short, and are the connection's own
abbrev IsShort : ℕ → List Header → Type 0
IsShort most hs = (are_headers hs ≡ true) × (lines_len hs ≤ most) × (list_all is_own hs ≡ true)

close_short : (t : Bool) → IsShort 24 (cond t (connection_header (codes "close") ∷ []) [])
unfolding are_headers is_token_byte eq_ignore_case
close_short true = (refl, omega arith, refl)
close_short false = (refl, omega arith, refl)

alive_short : (t : Bool) → IsShort 24 (cond t (connection_header (codes "keep-alive") ∷ []) [])
unfolding are_headers is_token_byte eq_ignore_case
alive_short true = (refl, omega arith, refl)
alive_short false = (refl, omega arith, refl)

told_short : (r : Request) (k : KnownFields) (keep : Bool) → IsShort 24 (connection_headers r k keep)
told_short r k true = alive_short _
told_short r k false = close_short _

numeral_short : (n : ℕ) → n < 2 ^ 64 → length (numeral 10 n) ≤ 20
unfolding numeral
numeral_short n small = by_test (eqb n 0)
  where
    by_test : (t : Bool) → length (cond t (48 ∷ []) (map digit_char (digits_of 10 n))) ≤ 20
    by_test true = omega arith
    by_test false = omega (arith, length-map (digits_of 10 n) digit_char, length-digits_of-le 10 20 n (omega arith) (omega arith))

length_short : (n : ℕ) → n < 2 ^ 64 → IsShort 38 (length_header n ∷ [])
unfolding are_headers is_token_byte eq_ignore_case
length_short n small = (
  and_from _ _ (decimal_is_trimmed n) refl,
  omega (arith, lines_push [] (length_header n), numeral_short n small),
  refl,
)

join_short : (a b : ℕ) (xs ys : List Header) → IsShort a xs → IsShort b ys → IsShort (a + b) (xs ++ ys)
join_short a b [] ys x y = (y.0, omega (arith, y.1), y.2)
join_short a b (h ∷ xs) ys x y = (
  are_headers-append (h ∷ xs) ys ∙ and_from _ _ x.0 y.0,
  omega (arith, x.1, y.1, lines_join (h ∷ xs) ys),
  list_all-append is_own (h ∷ xs) ys ∙ and_from _ _ x.2 y.2,
) where
  lines_join : (us vs : List Header) → lines_len (us ++ vs) ≡ lines_len us + lines_len vs
  lines_join [] vs = omega arith
  lines_join (u ∷ us) vs = omega (arith, length-append {A = ℕ}, lines_join us vs)

fits_size : (n : ℕ) → fits (Sized n) (size_for n) ≡ true
fits_size n = by_test (eqb n 0) refl
  where
    by_test : (t : Bool) → eqb n 0 ≡ t → fits (Sized n) (cond t Empty (Known n)) ≡ true
    by_test true is = is
    by_test false is = eq-eqb n n refl

fitting : (b f : Bool) → f ≡ true → (b && not f) ≡ false
fitting true f is = ap not is
fitting false f is = refl

-- the facts of a status that the plan asks for
pub record IsFinal (status : ℕ) : Type 0 where
  pub late : nat_lt status 200 ≡ false
  pub some : eqb status 204 ≡ false
  pub shown : eqb status 205 ≡ false
  pub changed : eqb status 304 ≡ false
  pub bodied : is_bodiless_status status ≡ false
  pub low : nat_le 100 status ≡ true
  pub high : nat_le status 999 ≡ true

abbrev told : Request → List Header → List Header → Framing → List Header
told r headers first stated =
    let k = known_fields (headers ++ first) in connection_headers r k (stays_open r k stated)

-- a plan comes of the fields that are given and the first that is added
stated_plan : (r : Request) (status : ℕ) (size : BodySize) (headers first : List Header) (stated final : Framing)
    → (is_sized r size && not (fits stated size)) ≡ false → is_plain (known_fields (headers ++ first)) ≡ true
    → ((k : KnownFields) → FramesAlike k (known_fields (headers ++ first)) → response_framing r.method status r.minor k ≡ Ok final)
    → plan_stated r status size headers first (Ok stated) ≡ Ok (record {
      extra = first ++ told r headers first stated;
      framing = final;
      keep_alive = stays_open r (known_fields (headers ++ first)) stated;
    })
stated_plan r status size headers first stated final fit plain framed =
    let keep = stays_open r (known_fields (headers ++ first)) stated in
    let second = told r headers first stated in
    let extra = first ++ second in
    let alike : FramesAlike (known_fields (headers ++ extra)) (known_fields (headers ++ first)) =
    subst (λ (t : List Header). FramesAlike (known_fields t) (known_fields (headers ++ first))) (append_assoc headers first second)
    (told_alike r (known_fields (headers ++ first)) keep (headers ++ first)) in
    let is_plain_then : is_plain (known_fields (headers ++ extra)) ≡ true = alike.2 ∙ plain in
    λ i. cond (fit i) (Err Refusal.BodySize) (cond (not (is_plain_then i)) (Err Refusal.UnusualFraming) (with_framing extra keep (framed (known_fields (headers ++ extra)) alike i)))

-- the response ends with its head
abbrev pub is_bare : MethodKind → ℕ → Bool
is_bare m status = is_head m || is_bodiless_status status

abbrev pub final_for : MethodKind → ℕ → ℕ → Framing
final_for m status n = if is_bare m status then NoBody else Sized n

sized_framing : (m : MethodKind) (status minor n : ℕ) (k : KnownFields) → is_connect m ≡ false → is_bodiless_status status ≡ false
    → k.content_length ≡ Length.Value n → k.transfer_encoding ≡ Coding.Absent → response_framing m status minor k ≡ Ok (final_for m status n)
sized_framing Method.Head status minor n k other bodied sized coded = refl
sized_framing Method.Connect status minor n k other bodied sized coded = cc
sized_framing Method.Other status minor n k other bodied sized coded =
    (λ i. cond (bodied i) (Ok NoBody) (by_fields minor UntilClose (Ok UntilClose) (coded i) (sized i))) ∙ sym (λ i. Ok (cond (bodied i) NoBody (Sized n)))

unsized_framing : (status minor : ℕ) (k : KnownFields) → is_bodiless_status status ≡ false
    → k.content_length ≡ Length.Absent → k.transfer_encoding ≡ Coding.Absent → response_framing Method.Other status minor k ≡ Ok UntilClose
unsized_framing status minor k bodied sized coded =
    λ i. cond (bodied i) (Ok NoBody) (by_fields minor UntilClose (Ok UntilClose) (coded i) (sized i))

head_framing : (m : MethodKind) (status minor n : ℕ) (k : KnownFields) → is_head m ≡ true → response_framing m status minor k ≡ Ok (final_for m status n)
head_framing Method.Head status minor n k is = refl
head_framing Method.Connect status minor n k is = cc
head_framing Method.Other status minor n k is = cc

pub record Plans (s : Server) (status n : ℕ) (fields : List Header) : Type 0 where
  pub plan : Plan
  pub planned : response_plan s status (size_for n) fields ≡ Ok plan
  pub framing : plan.framing ≡ final_for (peer_method s) status n
  pub valid : are_headers plan.extra ≡ true
  pub short : lines_len plan.extra ≤ 62
  pub own : list_all is_own plan.extra ≡ true

module _ (s : Server) (status n : ℕ) (fields : List Header) (awaits : may_respond s ≡ true) (no_tunnel : is_connect (peer_method s) ≡ false)
    (final : IsFinal status) (small : n < 2 ^ 64) (sendable : are_sendable fields ≡ true) where
  abbrev r : Request
  r = s.request

  bare : IsUnframed (known_fields fields)
  bare = unframed fields sendable

  -- `http1` plans by the fields, with this first
  by_stated : (first : List Header) → framing_headers r status (size_for n) fields ≡ first
      → response_plan s status (size_for n) fields
      ≡ plan_stated r status (size_for n) fields first (response_framing Method.Other status r.minor (known_fields (fields ++ first)))
  unfolding plan_fields
  by_stated first is =
      let k = known_fields (fields ++ framing_headers r status (size_for n) fields) in
      (λ i. cond (not (awaits i)) (Err Refusal.State)
      (cond (final.late i || (no_tunnel i && nat_lt status 300)) (Err Refusal.InvalidStartLine)
      (cond (final.some i && states_framing k) (Err Refusal.BodySize)
      (cond (final.shown i && (is_sized r (size_for n) && not (states_no_content k))) (Err Refusal.BodySize)
      (cond (final.changed i && (eqb r.minor 0 && has_transfer_encoding k)) (Err (Refusal.Framing UnexpectedTransferEncoding))
      (plan_stated r status (size_for n) fields (framing_headers r status (size_for n) fields) (response_framing Method.Other status r.minor k)))))))
      ∙ ap (λ (t : List Header). plan_stated r status (size_for n) fields t (response_framing Method.Other status r.minor (known_fields (fields ++ t)))) is

  size_header : size_headers r.minor (size_for n) ≡ length_header n ∷ []
  size_header = by_test (eqb n 0) refl
    where
      by_test : (t : Bool) → eqb n 0 ≡ t → size_headers r.minor (cond t Empty (Known n)) ≡ length_header n ∷ []
      by_test true is = ap (λ (k : ℕ). length_header k ∷ []) (sym (eqb-true n 0 is))
      by_test false is = refl

  first_is : (t : Bool) → is_sized r (size_for n) ≡ t → framing_headers r status (size_for n) fields ≡ cond t (length_header n ∷ []) []
  first_is t is =
      (λ i. cond (is i && (not (final.some i) && (not (final.changed i) && not (nat_lt 0 (bare.2 i))))) (size_header i) [])
      ∙ sure t
    where
      sure : (t : Bool) → cond (t && true) (length_header n ∷ []) [] ≡ cond t (length_header n ∷ []) []
      sure true = refl
      sure false = refl

  unsized_head : (h e : Bool) → (not h || not e) ≡ false → h ≡ true
  unsized_head true e is = refl
  unsized_head false e is = cc

  plans_at : (t : Bool) → is_sized r (size_for n) ≡ t → Plans s status n fields
  plans_at true is =
      let first : List Header = length_header n ∷ [] in
      let k = known_fields (fields ++ first) in
      let z = sized_push fields n small bare in
      let stated : response_framing Method.Other status r.minor k ≡ Ok (Sized n) =
      sized_framing Method.Other status r.minor n k refl final.bodied z.0 z.1 ∙ (λ i. Ok (cond (final.bodied i) NoBody (Sized n))) in
      let short = join_short 38 24 first (told r fields first (Sized n)) (length_short n small) (told_short r k (stays_open r k (Sized n))) in
      record {
        plan = record { extra = first ++ told r fields first (Sized n); framing = final_for r.method status n; keep_alive = stays_open r k (Sized n) };
        planned = by_stated first (first_is true is)
            ∙ ap (plan_stated r status (size_for n) fields first) stated
            ∙ stated_plan r status (size_for n) fields first (Sized n) (final_for r.method status n)
            (fitting (is_sized r (size_for n)) (fits (Sized n) (size_for n)) (fits_size n)) z.2
            (λ j alike. sized_framing r.method status r.minor n j no_tunnel final.bodied (alike.0 ∙ z.0) (alike.1 ∙ z.1));
        framing = refl;
        valid = short.0;
        short = short.1;
        own = short.2;
      }
  plans_at false is =
      let k = known_fields (fields ++ []) in
      let z = subst (λ (t : List Header). IsUnframed (known_fields t)) (sym (append-nil fields)) bare in
      let stated : response_framing Method.Other status r.minor k ≡ Ok UntilClose =
      unsized_framing status r.minor k final.bodied z.0 z.1 in
      let short = told_short r k (stays_open r k UntilClose) in
      record {
        plan = record { extra = told r fields [] UntilClose; framing = final_for r.method status n; keep_alive = stays_open r k UntilClose };
        planned = by_stated [] (first_is false is)
            ∙ ap (plan_stated r status (size_for n) fields []) stated
            ∙ stated_plan r status (size_for n) fields [] UntilClose (final_for r.method status n)
            (ap (λ (b : Bool). b && not (fits UntilClose (size_for n))) is)
            (λ i. nat_lt (z.2 i) 2 && z.3 i)
            (λ j alike. head_framing r.method status r.minor n j (unsized_head (is_head r.method) (is_empty (size_for n)) is));
        framing = refl;
        valid = short.0;
        short = omega (arith, short.1);
        own = short.2;
      }

  pub plans : Plans s status n fields
  plans = plans_at (is_sized r (size_for n)) refl

unmodified_framing : (m : MethodKind) (minor : ℕ) (k : KnownFields) → response_framing m 304 minor k ≡ Ok NoBody
unmodified_framing Method.Head minor k = refl
unmodified_framing Method.Connect minor k = refl
unmodified_framing Method.Other minor k = refl

unmodified_final : (m : MethodKind) → NoBody ≡ final_for m 304 0
unmodified_final Method.Head = refl
unmodified_final Method.Connect = refl
unmodified_final Method.Other = refl

never_coded : (k : KnownFields) → k.transfer_encoding ≡ Coding.Absent → (t : Bool) → (t && has_transfer_encoding k) ≡ false
never_coded k is true = ap (λ c. has_transfer_encoding (record k { transfer_encoding = c })) is
never_coded k is false = refl

never : (b : Bool) → (b && false) ≡ false
never true = refl
never false = refl

module _ (s : Server) (fields : List Header) (awaits : may_respond s ≡ true) (no_tunnel : is_connect (peer_method s) ≡ false) (sendable : are_sendable fields ≡ true) where
  abbrev asked : Request
  asked = s.request

  no_first : framing_headers asked 304 Empty fields ≡ []
  no_first = λ i. cond (never (is_sized asked Empty) i) (size_headers asked.minor Empty) []

  unmodified_planned : response_plan s 304 Empty fields ≡ plan_stated asked 304 Empty fields [] (Ok NoBody)
  unfolding plan_fields
  unmodified_planned =
      let first = framing_headers asked 304 Empty fields in
      let k = known_fields (fields ++ []) in
      let bare = subst (λ (t : List Header). IsUnframed (known_fields t)) (sym (append-nil fields)) (unframed fields sendable) in
      (λ i. cond (not (awaits i)) (Err Refusal.State)
      (cond (no_tunnel i && false) (Err Refusal.InvalidStartLine)
      (cond (eqb asked.minor 0 && has_transfer_encoding (known_fields (fields ++ no_first i))) (Err (Refusal.Framing UnexpectedTransferEncoding))
      (plan_stated asked 304 Empty fields (no_first i) (Ok NoBody)))))
      ∙ (λ i. cond (never_coded k bare.1 (eqb asked.minor 0) i) (Err (Refusal.Framing UnexpectedTransferEncoding)) (plan_stated asked 304 Empty fields [] (Ok NoBody)))

  -- a 304 has no content and states no length
  pub unmodified : Plans s 304 0 fields
  unmodified =
      let k = known_fields (fields ++ []) in
      let z = subst (λ (t : List Header). IsUnframed (known_fields t)) (sym (append-nil fields)) (unframed fields sendable) in
      let short = told_short asked k (stays_open asked k NoBody) in
      record {
        plan = record { extra = told asked fields [] NoBody; framing = NoBody; keep_alive = stays_open asked k NoBody };
        planned = unmodified_planned
            ∙ stated_plan asked 304 Empty fields [] NoBody NoBody (never (is_sized asked Empty)) (λ i. nat_lt (z.2 i) 2 && z.3 i)
            (λ j alike. unmodified_framing asked.method asked.minor j);
        framing = unmodified_final asked.method;
        valid = short.0;
        short = omega (arith, short.1);
        own = short.2;
      }
