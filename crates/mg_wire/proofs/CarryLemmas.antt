-- What stays true while bytes come and go.
use Rattle.std.proofs.Common.{◌≡◌, ◌⊎◌, ℕ, zero, suc, ◌-◌, Bool, IsTrue, List, [], ◌∷◌, ◌++◌, length, take, drop, min, Option, Some, None, append_assoc, append-nil, length-append, sym, refl, ap, ◌∙◌, subst, subst₂, inl, inr, arith}
use Rattle.std.specs.List.{flat_map}
use Rattle.std.proofs.lemmas.List.{take-append-drop, drop-append-le}
use Rattle.std.proofs.lemmas.Grind.{flat_map-append}
use Rattle.std.proofs.Math.Seq.{drop-append_seam}
use Rattle.bytes.proofs.Chunks.{drop-append_min}
use Rattle.bytes.specs.Filled.{Filled}
use Rattle.http1.specs.Decoder.{decoder_for, Completes, with_front}
use Rattle.http1.specs.Message.{AcceptsRequest}
use Rattle.mg_wire.specs.declared.body.Begun.{Begun}
use Rattle.mg_wire.specs.declared.bounds.Bounds.{Bounds}
use Rattle.mg_wire.specs.declared.connection.Connection.{Connection}
use Rattle.mg_wire.specs.declared.connection.Ending.{Ending}
use Rattle.mg_wire.specs.declared.connection.Ending.TheVariants.{Closed, InputEnded, Refused, NoMemory}
use Rattle.mg_wire.specs.declared.refusal.Refusal.{Refusal}
use Rattle.mg_wire.specs.Body.{IsBegun}
use Rattle.mg_wire.specs.Refusal.{Refuses}
use Rattle.mg_wire.specs.Transcript.{Call, IsTranscript}
use Rattle.mg_wire.specs.Connection.{received, sent, pending, said, IsInterimOf, Follows, StandsAt, EndsFor, Stands, Holds}
use Rattle.mg_wire.proofs.TurnLemmas.{grows}

begun_grows : (bounds : Bounds) (input more : List ℕ) (b : Begun) → IsBegun bounds input b → IsBegun bounds (input ++ more) b
begun_grows bounds input more b x = record {
  head = x.head;
  framing = x.framing;
  decoder = x.decoder;
  after = x.after ++ more;
  accepts = λ later. subst₂ (λ (s r : List ℕ). AcceptsRequest bounds.limits s x.head x.framing r) (sym (append_assoc input more later)) (sym (append_assoc x.after more later)) (x.accepts (more ++ later));
  serves = x.serves;
  reading_is = x.reading_is;
  within = omega (arith, x.within, length-append input more);
  moved = x.moved;
  back = λ later body rest z.
      let here : drop b.at (input ++ more) ++ later ≡ drop b.at input ++ (more ++ later) =
      ap (λ (u : List ℕ). u ++ later) (drop-append-le b.at input more x.within) ∙ append_assoc (drop b.at input) more later in
      subst (λ (u : List ℕ). Completes (decoder_for bounds.limits x.framing) u (with_front b.request.body.items body) rest) (sym (append_assoc x.after more later))
      (x.back (more ++ later) body rest (subst (λ (u : List ℕ). Completes x.decoder u body rest) here z));
  forth = λ later whole rest z.
      let here : drop b.at (input ++ more) ++ later ≡ drop b.at input ++ (more ++ later) =
      ap (λ (u : List ℕ). u ++ later) (drop-append-le b.at input more x.within) ∙ append_assoc (drop b.at input) more later in
      let f = x.forth (more ++ later) whole rest (subst (λ (u : List ℕ). Completes (decoder_for bounds.limits x.framing) u whole rest) (append_assoc x.after more later) z) in
      (f.0, f.1, subst (λ (u : List ℕ). Completes x.decoder u f.0 rest) (sym here) f.2);
  sized = x.sized;
  fits = x.fits;
}

module _ (c n : Connection) (more : List ℕ) (bounds : n.bounds ≡ c.bounds) (came : received n ≡ received c ++ more) (calls : n.calls.items ≡ c.calls.items) (out : said n ≡ said c) (begun : n.begun ≡ c.begun) where
  at_on : (input : List ℕ) → n.input.items ≡ input ++ more → input ≡ c.input.items → (b : Option Begun) (text : List ℕ) → StandsAt b c text → StandsAt b n text
  at_on input grew same None text x = out ∙ x
  at_on input grew same (Some b) text x = (
    subst₂ (λ (k : Bounds) (i : List ℕ). IsBegun k i b) (sym bounds) (sym (grew ∙ ap (λ (u : List ℕ). u ++ more) same)) (begun_grows c.bounds c.input.items more b x.0),
    out ∙ x.1,
  )

  pub carry : n.end ≡ c.end → c.end ≡ None → n.input.items ≡ c.input.items ++ more → Holds c → Holds n
  carry state goes_on grew h =
      let o : Stands None c h.answered h.text h.rest = subst (λ (s : Option Ending). Stands s c h.answered h.text h.rest) goes_on h.stands in
      record {
        answered = h.answered;
        text = h.text;
        rest = h.rest ++ more;
        transcript = subst₂ (λ (k : Bounds) (stream : List ℕ). IsTranscript k stream h.answered h.text (h.rest ++ more)) (sym bounds) (sym came)
            (grows c.bounds (received c) h.answered h.text h.rest more h.transcript);
        stands = subst (λ (s : Option Ending). Stands s n h.answered h.text (h.rest ++ more)) (sym (state ∙ goes_on)) (
          calls ∙ o.0,
          ap (λ (u : List ℕ). u ++ more) o.1 ∙ sym grew,
          subst (λ (b : Option Begun). StandsAt b n h.text) (sym begun) (at_on c.input.items grew refl c.begun h.text o.2),
          o.3,
        );
      }

-- a connection that says and has received the same, whatever its buffers are
module _ (c n : Connection) (bounds : n.bounds ≡ c.bounds) (came : received n ≡ received c) (calls : n.calls.items ≡ c.calls.items) (out : said n ≡ said c) (begun : n.begun ≡ c.begun) (ended : n.has_ended ≡ c.has_ended) (input : n.input.items ≡ c.input.items) where
  follows_same : (rest text tail : List ℕ) → Follows c rest text tail → Follows n rest text tail
  follows_same rest text tail f = (f.0, subst (λ (k : Bounds). (f.0 ≡ []) ⊎ IsInterimOf k.limits rest f.0) (sym bounds) f.1, out ∙ f.2)

  at_same : (b : Option Begun) (text : List ℕ) → StandsAt b c text → StandsAt b n text
  at_same None text x = out ∙ x
  at_same (Some b) text x = (subst₂ (λ (k : Bounds) (i : List ℕ). IsBegun k i b) (sym bounds) (sym input) x.0, out ∙ x.1)

  why_same : n.is_starved ≡ c.is_starved → (rest : List ℕ) (r : Refusal) → Refuses c.bounds c.has_ended c.is_starved rest r
      → Refuses n.bounds n.has_ended n.is_starved rest r
  why_same starved rest r x =
      subst (λ (e : Bool). Refuses n.bounds n.has_ended e rest r) (sym starved)
      (subst₂ (λ (k : Bounds) (e : Bool). Refuses k e c.is_starved rest r) (sym bounds) (sym ended) x)

  ends_same : n.is_starved ≡ c.is_starved → (ending : Ending) (answered : List Call) (text rest : List ℕ) → EndsFor ending c answered text rest → EndsFor ending n answered text rest
  ends_same starved Closed answered text rest x = (calls ∙ x.0, out ∙ x.1, x.2)
  ends_same starved InputEnded answered text rest x = (calls ∙ x.0, out ∙ x.1, x.2, subst IsTrue (sym ended) x.3)
  ends_same starved (Refused r) answered text rest x = (
    calls ∙ x.0,
    (x.1.0, follows_same rest text _ x.1.1),
    why_same starved rest r x.2,
  )
  ends_same starved NoMemory answered text rest x =
      (calls ∙ x.0, follows_same rest text [] x.1, (x.2.0, why_same starved rest x.2.0 x.2.1))

  stands_same : (s : Option Ending) → (s ≡ None) ⊎ (n.is_starved ≡ c.is_starved) → (answered : List Call) (text rest : List ℕ) → Stands s c answered text rest → Stands s n answered text rest
  stands_same None starved answered text rest x =
      (calls ∙ x.0, x.1 ∙ sym input, subst (λ (b : Option Begun). StandsAt b n text) (sym begun) (at_same c.begun text x.2), x.3)
  stands_same (Some ending) (inl bad) answered text rest x = cc
  stands_same (Some ending) (inr starved) answered text rest x = ends_same starved ending answered text rest x

  -- only an end tells whether there was memory for a read
  pub same : n.end ≡ c.end → (c.end ≡ None) ⊎ (n.is_starved ≡ c.is_starved) → Holds c → Holds n
  same state starved h = record {
    answered = h.answered;
    text = h.text;
    rest = h.rest;
    transcript = subst₂ (λ (k : Bounds) (stream : List ℕ). IsTranscript k stream h.answered h.text h.rest) (sym bounds) (sym came) h.transcript;
    stands = subst (λ (s : Option Ending). Stands s n h.answered h.text h.rest) (sym state) (stands_same c.end starved h.answered h.text h.rest h.stands);
  }

pub said_same : (c n : Connection) → n.writes ≡ c.writes → n.output ≡ c.output → n.tail ≡ c.tail → said n ≡ said c
said_same c n w o t = λ i. flat_map (λ (k : Filled × ℕ). take k.1 k.0.items) (w i).items ++ ((o i).items ++ (t i).items)

pub released : (c n : Connection) → n.bounds ≡ c.bounds → n.reads ≡ c.reads → n.writes ≡ c.writes → n.calls ≡ c.calls → n.has_ended ≡ c.has_ended → n.end ≡ c.end → n.begun ≡ c.begun → n.input.items ≡ c.input.items → n.output.items ≡ c.output.items → n.tail.items ≡ c.tail.items → (c.end ≡ None) ⊎ (n.is_starved ≡ c.is_starved) → Holds c → Holds n
released c n bounds reads writes calls ended state begun input out tail starved =
    same c n bounds (λ i. flat_map (λ (r : Filled × ℕ). drop r.1 r.0.items) (reads i).items) (λ i. (calls i).items)
    (λ i. flat_map (λ (k : Filled × ℕ). take k.1 k.0.items) (writes i).items ++ (out i ++ tail i)) begun ended input state starved

-- one more read, and one more write
pub received_more : (c n : Connection) (after : Filled) (len : ℕ) (before more : List ℕ) → n.reads.items ≡ c.reads.items ++ (after, len) ∷ [] → len ≡ length before → after.items ≡ before ++ more → received n ≡ received c ++ more
received_more c n after len before more logged same grew =
    ap (flat_map (λ (r : Filled × ℕ). drop r.1 r.0.items)) logged ∙ flat_map-append (λ (r : Filled × ℕ). drop r.1 r.0.items) c.reads.items ((after, len) ∷ [])
    ∙ ap (λ (u : List ℕ). received c ++ u) (append-nil (drop len after.items)
    ∙ subst₂ (λ (l : ℕ) (u : List ℕ). drop l u ≡ more) (sym same) (sym grew) (drop-append_seam before more))

taken : (o t : List ℕ) (count : ℕ) → take (min count (length o)) o ++ take (count - min count (length o)) t ≡ take count (o ++ t)
taken [] t count =
    let e : min count 0 ≡ 0 = omega arith in
    let d : count - 0 ≡ count = omega arith in
    rw (e, d)
taken (x ∷ o) t zero = let e : min 0 (suc (length o)) ≡ 0 = omega arith in rw e
taken (x ∷ o) t (suc count) =
    let e : min (suc count) (suc (length o)) ≡ suc (min count (length o)) = omega arith in
    let d : suc count - suc (min count (length o)) ≡ count - min count (length o) = omega arith in
    rw (e, d) (ap (λ (u : List ℕ). x ∷ u) (taken o t count))

pub sent_more : (c n : Connection) (head rest count : ℕ) → n.writes.items ≡ (c.writes.items ++ (c.output, head) ∷ []) ++ (c.tail, rest) ∷ [] → head ≡ min count (length c.output.items) → rest ≡ count - head → sent n ≡ sent c ++ take count (pending c)
sent_more c n head rest count logged is left =
    let f = λ (w : Filled × ℕ). take w.1 w.0.items in
    ap (flat_map f) logged ∙ flat_map-append f (c.writes.items ++ (c.output, head) ∷ []) ((c.tail, rest) ∷ [])
    ∙ ap (λ (u : List ℕ). u ++ (take rest c.tail.items ++ [])) (flat_map-append f c.writes.items ((c.output, head) ∷ []))
    ∙ append_assoc (sent c) (take head c.output.items ++ []) (take rest c.tail.items ++ [])
    ∙ ap (λ (u : List ℕ). sent c ++ u) (
    (λ i. append-nil (take head c.output.items) i ++ append-nil (take rest c.tail.items) i)
    ∙ (λ i. take (is i) c.output.items ++ take ((left ∙ ap (λ (k : ℕ). count - k) is) i) c.tail.items)
    ∙ taken c.output.items c.tail.items count
    )

pub pending_less : (c n : Connection) (head rest count : ℕ) → n.output.items ≡ drop head c.output.items → n.tail.items ≡ drop rest c.tail.items → head ≡ min count (length c.output.items) → rest ≡ count - head → pending n ≡ drop count (pending c)
pending_less c n head rest count o t is left =
    (λ i. o i ++ t i) ∙ (λ i. drop (is i) c.output.items ++ drop ((left ∙ ap (λ (k : ℕ). count - k) is) i) c.tail.items) ∙ sym (drop-append_min c.output.items c.tail.items count)

pub said_kept : (c n : Connection) (count : ℕ) → sent n ≡ sent c ++ take count (pending c) → pending n ≡ drop count (pending c) → said n ≡ said c
said_kept c n count s p =
    (λ i. s i ++ p i) ∙ append_assoc (sent c) (take count (pending c)) (drop count (pending c)) ∙ ap (λ (u : List ℕ). sent c ++ u) (take-append-drop count (pending c))
