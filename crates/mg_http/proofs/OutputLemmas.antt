-- The bytes that wait to be sent: the replies that were joined, and the rest of the last one.
use Rattle.std.proofs.Common.{◌≡◌, ℕ, ◌+◌, ◌-◌, ◌≤◌, List, [], ◌∷◌, ◌++◌, length, drop, min, refl, sym, ap, ◌∙◌, append-nil, arith, length-drop, drop-drop}
use Rattle.std.proofs.lemmas.List.{drop_all}
use Rattle.bytes.proofs.Chunks.{drop-append_min}
use Rattle.mg_http.specs.declared.sessions.output.Output.{Output}
use Rattle.mg_http.specs.Output.{left_of_last, left_in, HasRoom}

-- nothing is left of some bytes if all of them are dropped, and only then
pub dropped_all : (n : ℕ) (xs : List ℕ) → length xs ≤ n → drop n xs ≡ []
dropped_all n xs all = drop_all n xs all

pub all_dropped : (n : ℕ) (xs : List ℕ) → drop n xs ≡ [] → length xs ≤ n
all_dropped n xs none = omega (arith, ap length none, length-drop n xs)

pub both_empty : (xs ys : List ℕ) → xs ++ ys ≡ [] → (xs ≡ []) × (ys ≡ [])
both_empty [] ys e = (refl, e)
both_empty (x ∷ xs) ys e = cc

dropped_min : (n : ℕ) (xs : List ℕ) → drop (min n (length xs)) xs ≡ drop n xs
dropped_min n xs = sym (append-nil (drop (min n (length xs)) xs)) ∙ drops_more ∙ sym (drop-append_min xs [] n) ∙ ap (drop n) (append-nil xs) where
  drops_more : drop (min n (length xs)) xs ++ [] ≡ drop (min n (length xs)) xs ++ drop (n - min n (length xs)) []
  drops_more = ap (λ (t : List ℕ). drop (min n (length xs)) xs ++ t) (sym (drop_all (n - min n (length xs)) [] (omega arith)))

-- so many bytes at the front are sent
pub sent_more : (joined last : List ℕ) (sent count first now : ℕ) → first ≡ min count (length joined) → now ≡ min (sent + (count - first)) (length last)
    → drop first joined ++ drop now last ≡ drop count (joined ++ drop sent last)
sent_more joined last sent count first now is goes =
    let m = min count (length joined) in
    rw (goes, dropped_min (sent + (count - first)) last, is)
    (ap (λ (t : List ℕ). drop m joined ++ t) (sym (drop-drop (count - m) sent last)) ∙ sym (drop-append_min joined (drop sent last) count))

-- an output whose bytes are all sent has room
pub room_if_sent : (o : Output) → left_in o ≡ [] → HasRoom o
room_if_sent o none =
    let e = both_empty o.joined.items (left_of_last o) none in
    (e.1, omega (arith, ap length e.0))
