-- What a connection keeps true.
use Rattle.std.proofs.Common.{◌≡◌, ◌≢◌, ◌⊎◌, ℕ, Bool, IsTrue, IsFalse, true, false, eqb, ◌==◌, List, [], ◌∷◌, ◌++◌, length, take, drop, Option, Some, None, append_assoc, append-nil, sym, refl, ap, ◌∙◌, subst, subst₂, inl, inr, arith}
use Rattle.std.specs.List.{flat_map}
use Rattle.http1.specs.Message.{AcceptsRequest}
use Rattle.httpdate.specs.declared.date.HttpDate.{HttpDate as Date}
use Rattle.mg_wire.specs.declared.body.Begun.{Begun}
use Rattle.mg_wire.specs.declared.bounds.Bounds.{Bounds}
use Rattle.mg_wire.specs.declared.connection.Connection.{Connection}
use Rattle.mg_wire.specs.declared.connection.Ending.{Ending}
use Rattle.mg_wire.specs.declared.connection.Ending.TheVariants.{InputEnded, Refused, NoMemory}
use Rattle.mg_wire.specs.declared.refusal.Refusal.{Refusal}
use Rattle.mg_wire.specs.Body.{IsBegun}
use Rattle.mg_wire.specs.Refusal.{Refuses, begins_with_head, refusal_text}
use Rattle.mg_wire.specs.Transcript.{Call, interim_for, IsTranscript}
use Rattle.mg_wire.specs.Connection.{received, sent, said, IsInterimOf, Follows, StandsAt, EndsFor, Stands, Holds, IsSilent}

-- before and after, with these bytes more at the end of the output
pub record Adds (old new : Connection) (more : List ℕ) : Type 0 where
  pub silent : IsSilent old new
  pub calls : new.calls ≡ old.calls
  pub ended : new.has_ended ≡ old.has_ended
  pub starved : new.is_starved ≡ old.is_starved
  pub bare : old.tail.items ≡ []
  pub tail : new.tail.items ≡ []
  pub out : new.output.items ≡ old.output.items ++ more

pub received_same : (old new : Connection) → IsSilent old new → received new ≡ received old
received_same old new s = λ i. flat_map (λ p. drop p.1 p.0.items) (s.reads i).items

pub sent_same : (old new : Connection) → IsSilent old new → sent new ≡ sent old
sent_same old new s = λ i. flat_map (λ p. take p.1 p.0.items) (s.writes i).items

-- the request that has begun was sent what its head asks for
pub interim_of : (bounds : Bounds) (input : List ℕ) (b : Begun) → IsBegun bounds input b → IsInterimOf bounds.limits input (interim_for b.expects_continue)
interim_of bounds input b x = record {
  head = x.head;
  framing = x.framing;
  after = x.after;
  accepts = subst₂ (λ (s r : List ℕ). AcceptsRequest bounds.limits s x.head x.framing r) (append-nil input) (append-nil x.after) (x.accepts []);
  is = ap interim_for x.serves.keeps.expects;
}

with_pending : (s t p a q b more : List ℕ) → t ≡ s → p ≡ [] → b ≡ [] → q ≡ a ++ more → t ++ (q ++ p) ≡ (s ++ (a ++ b)) ++ more
with_pending s t p a q b more x y z w =
    subst₂ (λ (t p : List ℕ). t ++ (q ++ p) ≡ (s ++ (a ++ b)) ++ more) (sym x) (sym y)
    (subst₂ (λ (q b : List ℕ). s ++ (q ++ []) ≡ (s ++ (a ++ b)) ++ more) (sym w) (sym z)
    (ap (λ (u : List ℕ). s ++ u) (append-nil (a ++ more)) ∙ sym (append_assoc s a more) ∙ ap (λ (u : List ℕ). (s ++ u) ++ more) (sym (append-nil a))))

nothing_begun : (bounds : Bounds) (input : List ℕ) (b : Begun) → IsBegun bounds input b → input ≢ []
nothing_begun bounds input b x is = let none : length input ≡ 0 = ap length is in omega (arith, x.within, x.moved)

module _ (old new : Connection) (more : List ℕ) (a : Adds old new more) where
  pub said_is : said new ≡ said old ++ more
  said_is = with_pending (sent old) (sent new) new.tail.items old.output.items new.output.items old.tail.items more (sent_same old new a.silent) a.tail a.bare a.out

  moved : (h : Holds old) → Stands new.end new h.answered h.text h.rest → Holds new
  moved h s = record {
    answered = h.answered;
    text = h.text;
    rest = h.rest;
    transcript = subst₂ (λ (k : Bounds) (stream : List ℕ). IsTranscript k stream h.answered h.text h.rest)
        (sym a.silent.bounds) (sym (received_same old new a.silent)) h.transcript;
    stands = s;
  }

  opened : (h : Holds old) → old.end ≡ None → Stands None old h.answered h.text h.rest
  opened h is = subst (λ (s : Option Ending). Stands s old h.answered h.text h.rest) is h.stands

  calls_same : {answered : List Call} → old.calls.items ≡ answered → new.calls.items ≡ answered
  calls_same is = (λ i. (a.calls i).items) ∙ is

  follows_at : (b : Option Begun) (text : List ℕ) → StandsAt b old text → Follows old old.input.items text []
  follows_at None text s = ([], inl refl, s ∙ sym (append-nil text))
  follows_at (Some b) text s = (
    interim_for b.expects_continue,
    inr (interim_of old.bounds old.input.items b s.0),
    s.1 ∙ ap (λ (i : List ℕ). text ++ i) (sym (append-nil (interim_for b.expects_continue))),
  )

  follows_more : (rest text : List ℕ) → Follows old rest text [] → Follows new rest text more
  follows_more rest text f = (
    f.0,
    subst (λ (k : Bounds). (f.0 ≡ []) ⊎ IsInterimOf k.limits rest f.0) (sym a.silent.bounds) f.1,
    said_is ∙ ap (λ (o : List ℕ). o ++ more) (f.2 ∙ ap (λ (i : List ℕ). text ++ i) (append-nil f.0)) ∙ append_assoc text f.0 more,
  )

  module _ (h : Holds old) (goes_on : old.end ≡ None) where
    rest_is : h.rest ≡ old.input.items
    rest_is = (opened h goes_on).1

    after : Follows new h.rest h.text more
    after = follows_more h.rest h.text
        (subst (λ (r : List ℕ). Follows old r h.text []) (sym rest_is) (follows_at old.begun h.text (opened h goes_on).2))

    ends_for : (ending : Ending) → new.end ≡ Some ending → EndsFor ending new h.answered h.text h.rest → Holds new
    ends_for ending is s = moved h (subst (λ (t : Option Ending). Stands t new h.answered h.text h.rest) (sym is) s)

    why_now : (r : Refusal) → Refuses old.bounds old.has_ended old.is_starved old.input.items r → Refuses new.bounds new.has_ended new.is_starved h.rest r
    why_now r why =
        subst (λ (u : List ℕ). Refuses new.bounds new.has_ended new.is_starved u r) (sym rest_is)
        (subst (λ (e : Bool). Refuses new.bounds new.has_ended e old.input.items r) (sym a.starved)
        (subst₂ (λ (k : Bounds) (e : Bool). Refuses k e old.is_starved old.input.items r) (sym a.silent.bounds) (sym a.ended) why))

    pub refuses : (date : Option Date) (r : Refusal) → more ≡ refusal_text date (begins_with_head old.input.items) r → new.end ≡ Some (Refused r)
        → Refuses old.bounds old.has_ended old.is_starved old.input.items r → Holds new
    refuses date r same is why = ends_for (Refused r) is (
      calls_same (opened h goes_on).0,
      (date, subst (Follows new h.rest h.text) (same ∙ ap (λ (u : List ℕ). refusal_text date (begins_with_head u) r) (sym rest_is)) after),
      why_now r why,
    )

    pub starves : more ≡ [] → new.end ≡ Some NoMemory → (r : Refusal) → Refuses old.bounds old.has_ended old.is_starved old.input.items r → Holds new
    starves same is r why = ends_for NoMemory is (calls_same (opened h goes_on).0, subst (Follows new h.rest h.text) same after, (r, why_now r why))

    text_at : (b : Option Begun) → old.input.items ≡ [] → StandsAt b old h.text → said old ≡ h.text
    text_at None none s = s
    text_at (Some b) none s = absurd (nothing_begun old.bounds old.input.items b s.0 none)

    pub runs_out : more ≡ [] → new.end ≡ Some InputEnded → old.input.items ≡ [] → IsTrue old.has_ended → Holds new
    runs_out same is none ended = ends_for InputEnded is (
      calls_same (opened h goes_on).0,
      said_is ∙ ap (λ (u : List ℕ). said old ++ u) same ∙ append-nil (said old) ∙ text_at old.begun none (opened h goes_on).2,
      rest_is ∙ none,
      subst IsTrue (sym a.ended) ended,
    )

    stands_open : new.end ≡ None → new.input.items ≡ old.input.items → StandsAt new.begun new h.text → Holds new
    stands_open is input s = moved h (subst (λ (t : Option Ending). Stands t new h.answered h.text h.rest) (sym is)
        (calls_same (opened h goes_on).0, rest_is ∙ sym input, s, (opened h goes_on).3))

    pub admits : (b : Begun) → old.begun ≡ None → more ≡ interim_for b.expects_continue → new.begun ≡ Some b → new.end ≡ None → new.input.items ≡ old.input.items
        → IsBegun old.bounds old.input.items b → Holds new
    admits b first interim now is input begun =
        let text : said old ≡ h.text = subst (λ (x : Option Begun). StandsAt x old h.text) first (opened h goes_on).2 in
        stands_open is input (subst (λ (x : Option Begun). StandsAt x new h.text) (sym now) (
          subst₂ (λ (l : Bounds) (input : List ℕ). IsBegun l input b) (sym a.silent.bounds) (sym input) begun,
          said_is ∙ (λ i. text i ++ interim i),
        ))

    pub goes : (b n : Begun) → more ≡ [] → old.begun ≡ Some b → new.begun ≡ Some n → n.expects_continue ≡ b.expects_continue → new.end ≡ None
        → new.input.items ≡ old.input.items → IsBegun old.bounds old.input.items n → Holds new
    goes b n same before now keeps is input begun =
        let at = subst (λ (x : Option Begun). StandsAt x old h.text) before (opened h goes_on).2 in
        stands_open is input (subst (λ (x : Option Begun). StandsAt x new h.text) (sym now) (
          subst₂ (λ (l : Bounds) (input : List ℕ). IsBegun l input n) (sym a.silent.bounds) (sym input) begun,
          said_is ∙ ap (λ (u : List ℕ). said old ++ u) same ∙ append-nil (said old) ∙ at.1 ∙ ap (λ (e : Bool). h.text ++ interim_for e) (sym keeps),
        ))

never_empty : (x : ℕ) (xs : List ℕ) → eqb (length (x ∷ xs)) 0 ≡ true → ⊥
never_empty x xs none = grind arith

pub empty_is : (xs : List ℕ) (e : Bool) → e ≡ (length xs == 0) → IsTrue e → xs ≡ []
empty_is [] e is t = refl
empty_is (x ∷ xs) e is t = absurd (never_empty x xs (sym is ∙ t))

pub not_empty : (xs : List ℕ) (e : Bool) → e ≡ (length xs == 0) → IsFalse e → xs ≢ []
not_empty xs e is f none = let bad : true ≡ false = sym (is ∙ ap (λ (ys : List ℕ). length ys == 0) none) ∙ f in cc
