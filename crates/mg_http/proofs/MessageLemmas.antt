-- Heads in a window (the first 16,384 bytes), and what bytes begin with after more arrive.
use Rattle.std.proofs.Common.{◌≡◌, ℕ, ◌+◌, ◌-◌, ◌≤◌, ◌⊎◌, min, Bool, List, [], ◌∷◌, ◌++◌, length, take, drop, refl, sym, ap, ◌∙◌, subst, append_assoc, append-nil, take-append-drop, arith, length-append, length-take, inl, inr, codes}
use Rattle.std.specs.Bool.{IsTrue}
use Rattle.std.proofs.lemmas.Bool.{cases_lt}
use Rattle.std.proofs.lemmas.List.{append_cancel_left, take-append-le, drop-append-le, take_all, get_or_append_left}
use Rattle.std.proofs.lemmas.List.Elements.{All-nil, All-cons}
use Rattle.std.proofs.Math.Seq.{take-append_seam, drop-append_seam, take-append-add}
use Rattle.httparse.specs.Grammar.{RequestHead, IsRequestHead, LineEnd, crlf, print_blank, print_request, ReadsRequest, NeverHasRequest, EndsInTarget, IsToken, AllPass, is_uri_byte, IsField}
use Rattle.httparse.proofs.GrammarLemmas.{request_unique, ReadsRequest-append}
use Rattle.mg_engine.specs.declared.refusal.Refusal.{Refusal}
use Rattle.mg_http.specs.Head.{framed, unframed, framing_of, omits_body_of, closes_after}
use Rattle.mg_http.specs.Message.{Message, HasHead, Begins, IsNoHead}
use Rattle.mg_http.specs.Target.{Request}

module _ (bytes : List ℕ) (k : ℕ) where
  -- a head of the window is one of the bytes
  pub widen : (h : RequestHead) (r : List ℕ) → ReadsRequest (take k bytes) h r → ReadsRequest bytes h (r ++ drop k bytes)
  widen h r x = subst (λ (t : List ℕ). ReadsRequest t h (r ++ drop k bytes)) (take-append-drop k bytes) (ReadsRequest-append (take k bytes) h r (drop k bytes) x)

  -- a head of the window is no longer than the window
  pub head_fits : (h : RequestHead) (r : List ℕ) → ReadsRequest (take k bytes) h r → length (print_request h) ≤ k
  head_fits h r x = omega (arith, ap length x.1, length-append (print_request h) r, length-take k bytes)

  -- bytes begin with a head if their window does
  pub has_head : (h : RequestHead) (r : List ℕ) → k ≤ 16384 → ReadsRequest (take k bytes) h r → HasHead bytes h (r ++ drop k bytes)
  has_head h r small x = record { reads = widen h r x; fits = omega (arith, head_fits h r x) }

take_over : (k : ℕ) (prefix rest : List ℕ) → length prefix ≤ k → take k (prefix ++ rest) ≡ prefix ++ take (k - length prefix) rest
take_over k prefix rest fits =
    let split : k ≡ length prefix + (k - length prefix) = omega (arith, fits) in
    ap (λ (j : ℕ). take j (prefix ++ rest)) split ∙ take-append-add prefix rest (k - length prefix)

-- a head within its limit is found in the window
pub in_window : (bytes : List ℕ) (h : RequestHead) (after : List ℕ) → HasHead bytes h after
    → ReadsRequest (take 16384 bytes) h (take (16384 - length (print_request h)) after)
in_window bytes h after x =
    (x.reads.0, ap (take 16384) x.reads.1 ∙ take_over 16384 (print_request h) after x.fits)

-- bytes begin with at most one head
pub one_head : (bytes : List ℕ) (h k : RequestHead) (r q : List ℕ) → HasHead bytes h r → HasHead bytes k q → (h ≡ k) × (r ≡ q)
one_head bytes h k r q x y = request_unique bytes h k r q x.reads y.reads

pub HasHead-append : (bytes : List ℕ) (h : RequestHead) (after more : List ℕ) → HasHead bytes h after → HasHead (bytes ++ more) h (after ++ more)
HasHead-append bytes h after more x = record { reads = ReadsRequest-append bytes h after more x.reads; fits = x.fits }

-- bytes that begin with a message still do with more
pub Begins-append : (db bytes : List ℕ) (m : Message) (rest more : List ℕ) → Begins db bytes m rest → Begins db (bytes ++ more) m (rest ++ more)
Begins-append db bytes m rest more x = record {
  head = x.head;
  after = x.after ++ more;
  has = HasHead-append bytes x.head x.after more x.has;
  framed = x.framed;
  joined = ap (λ (t : List ℕ). t ++ more) x.joined ∙ append_assoc m.body rest more;
}

same_length : (b c p q : List ℕ) → length b ≡ length c → b ++ p ≡ c ++ q → (b ≡ c) × (p ≡ q)
same_length b c p q size rest = (
  sym (take-append_seam b p) ∙ ap (take (length b)) rest ∙ ap (λ (k : ℕ). take k (c ++ q)) size ∙ take-append_seam c q,
  sym (drop-append_seam b p) ∙ ap (drop (length b)) rest ∙ ap (λ (k : ℕ). drop k (c ++ q)) size ∙ drop-append_seam c q,
)

pub framed_request : (r s : Request) (n k : ℕ) → framed r n ≡ framed s k → (r ≡ s) × (n ≡ k)
framed_request r s n k e = (cc, cc)

pub never_framed : (r : Request) (n : ℕ) (refusal : Refusal) → framed r n ≡ unframed refusal → ⊥
never_framed r n refusal e = cc

same_message : (m n : Message) → m.request ≡ n.request → m.body ≡ n.body → m.omits_body ≡ n.omits_body → m.closes ≡ n.closes → m ≡ n
same_message m n a b c d =
    let with : Request → List ℕ → Bool → Bool → Message = λ r x s e. record { request = r; body = x; omits_body = s; closes = e } in
    ap (λ (r : Request). with r m.body m.omits_body m.closes) a ∙ ap (λ (x : List ℕ). with n.request x m.omits_body m.closes) b
    ∙ ap (λ (s : Bool). with n.request n.body s m.closes) c ∙ ap (λ (e : Bool). with n.request n.body n.omits_body e) d

-- bytes begin with at most one message
pub two_messages : (db bytes : List ℕ) (m n : Message) (p q : List ℕ) → Begins db bytes m p → Begins db bytes n q → (m ≡ n) × (p ≡ q)
two_messages db bytes m n p q x y =
    let one = one_head bytes x.head y.head x.after y.after x.has y.has in
    let asked : framed m.request (length m.body) ≡ framed n.request (length n.body) = sym x.framed.framing ∙ ap (framing_of db) one.0 ∙ y.framed.framing in
    let parts = framed_request m.request n.request (length m.body) (length n.body) asked in
    let bodies = same_length m.body n.body p q parts.1 (sym x.joined ∙ one.1 ∙ y.joined) in
    let omits_body : m.omits_body ≡ n.omits_body = x.framed.omits_body ∙ ap omits_body_of one.0 ∙ sym y.framed.omits_body in
    let closes : m.closes ≡ n.closes = x.framed.closes ∙ ap closes_after one.0 ∙ sym y.framed.closes in
    (same_message m n parts.0 bodies.0 omits_body closes, bodies.1)

-- ---- refused bytes stay refused

-- of two prefixes of a list, one is a prefix of the other
either_prefix : (a b c d : List ℕ) → a ++ b ≡ c ++ d → ((u : List ℕ) × (a ++ u ≡ c)) ⊎ ((u : List ℕ) × (a ≡ c ++ u))
either_prefix [] b c d e = inl (c, refl)
either_prefix (x ∷ a) b [] d e = inr (x ∷ a, refl)
either_prefix (x ∷ a) b (y ∷ c) d e =
    let heads : x ≡ y = cc in
    let tails : a ++ b ≡ c ++ d = cc in
    elim (either_prefix a b c d tails) [
      | inl r ↦ inl (r.0, rw (heads, r.1) refl)
      | inr r ↦ inr (r.0, rw (heads, r.1) refl)
    ]

-- the shortest target, the version and the end of a head
tail : List ℕ
tail = codes "/ HTTP/1.1\r\n\r\n"

-- a head of this method
some_head : List LineEnd → List ℕ → RequestHead
some_head blank method =
    record { blank = blank; method = method; target = codes "/"; minor = 1; line_end = crlf; fields = []; last = crlf }

-- `some_head` is a head; this is its text
some_head_is : (blank : List LineEnd) (method : List ℕ) → IsToken method → IsRequestHead (some_head blank method)
unfolding some_head lib.Utf8.encode
some_head_is blank method is = record {
  method = is;
  target = (omega arith, All-cons (λ b. IsTrue (is_uri_byte b)) 47 [] refl (All-nil (λ b. IsTrue (is_uri_byte b))));
  target_text = (47 ∷ [], (refl, refl));
  minor = omega arith;
  fields = All-nil IsField;
}

some_head_text : (blank : List LineEnd) (method : List ℕ) → print_request (some_head blank method) ≡ (print_blank blank ++ method) ++ (32 ∷ tail)
unfolding some_head print_request tail
some_head_text blank method = simp append_assoc refl

part_of_target : (u more : List ℕ) → AllPass is_uri_byte (u ++ more) → AllPass is_uri_byte u
part_of_target u more all = λ k d inside. rw (get_or_append_left u more d k inside) at (all k d (omega (arith, length-append u more)))

-- bytes that can never become a head, but end within a target after more arrive, end within a target already
in_target_before : (w more : List ℕ) → NeverHasRequest w → EndsInTarget (w ++ more) → EndsInTarget w
in_target_before w more never (blank, method, target, token, uri, is) =
    let start : List ℕ = print_blank blank ++ method in
    let prefix : List ℕ = start ++ 32 ∷ [] in
    let whole : w ++ more ≡ prefix ++ target = is ∙ sym (append_assoc start (32 ∷ []) target) in
    elim (either_prefix w more prefix target whole) [
      | inl r ↦
          let joined : w ++ (r.0 ++ tail) ≡ print_request (some_head blank method) ++ [] =
          sym (append_assoc w r.0 tail) ∙ ap (λ (t : List ℕ). t ++ tail) r.1 ∙ append_assoc start (32 ∷ []) tail
          ∙ sym (some_head_text blank method) ∙ sym (append-nil (print_request (some_head blank method))) in
          absurd (never (r.0 ++ tail) (some_head blank method) [] (some_head_is blank method token, joined))
      | inr r ↦
          let routes_after : r.0 ++ more ≡ target =
          append_cancel_left prefix (r.0 ++ more) target (sym (append_assoc prefix r.0 more) ∙ ap (λ (t : List ℕ). t ++ more) (sym r.1) ∙ whole) in
          (blank, method, r.0, token, part_of_target r.0 more (rw (← routes_after) at uri), r.1 ∙ append_assoc start (32 ∷ []) r.0)
    ]

pub no_head_more : (w more : List ℕ) → IsNoHead w → IsNoHead (w ++ more)
no_head_more w more x =
    (λ others h r reads. x.0 (more ++ others) h r (rw append_assoc at reads), λ t. x.1 (in_target_before w more x.0 t))

pub never_none : (w : List ℕ) (h : RequestHead) (r : List ℕ) → NeverHasRequest w → ReadsRequest w h r → ⊥
never_none w h r never x = never [] h r (rw append-nil x)

-- with more bytes, the window only grows
pub window_more : (k : ℕ) (bytes more : List ℕ) → (u : List ℕ) × (take k (bytes ++ more) ≡ take k bytes ++ u)
window_more k bytes more =
    elim (cases_lt k (length bytes)) [
      | inl short ↦ ([], take-append-le k bytes more (omega (arith, short)) ∙ sym (append-nil (take k bytes)))
      | inr long ↦ (take (k - length bytes) more, take_over k bytes more long ∙ ap (λ (t : List ℕ). t ++ take (k - length bytes) more) (sym (take_all k bytes long)))
    ]

-- with more bytes, a full window does not change
pub window_full : (k : ℕ) (bytes more : List ℕ) → k ≤ length bytes → take k (bytes ++ more) ≡ take k bytes
window_full k bytes more full = take-append-le k bytes more full

-- what follows n bytes of the window, and then the bytes after the window, are what follows the n bytes
pub rest_of_window : (bytes : List ℕ) (k n : ℕ) → n ≤ length (take k bytes) → drop n (take k bytes) ++ drop k bytes ≡ drop n bytes
rest_of_window bytes k n inside = sym (drop-append-le n (take k bytes) (drop k bytes) inside) ∙ ap (drop n) (take-append-drop k bytes)

-- the first k bytes are the window, if k is the lesser of their number and 16,384
pub same_window : (k : ℕ) (bytes : List ℕ) → k ≡ min (length bytes) 16384 → take k bytes ≡ take 16384 bytes
same_window k bytes e =
    elim (cases_lt (length bytes) 16384) [
      | inl short ↦ take_all k bytes (omega (arith, e, short)) ∙ sym (take_all 16384 bytes (omega (arith, short)))
      | inr long ↦ let full : k ≡ 16384 = omega (arith, e, long) in ap (λ (j : ℕ). take j bytes) full
    ]
