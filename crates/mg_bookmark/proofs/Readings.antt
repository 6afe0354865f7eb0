-- A text is read as a place exactly if it is that place's spelling.
use Rattle.std.proofs.Common.{◌≡◌, ◌≢◌, ◌↔◌, ℕ, List, Bool, true, false, ◌&&◌, cond, Option, Some, None, option_map, if◌then◌else◌, refl, ap, ◌∙◌, subst, codes}
use Rattle.std.specs.Option.{option_and_then}
use Rattle.std.specs.Str.{IsUtf8, bytes_eq, is_utf8}
use Rattle.std.proofs.lemmas.Option.{option_and_then_some}
use Rattle.std.proofs.lemmas.Slice.Eq.{bytes_eq-Decides}
use Rattle.std.proofs.lemmas.Str.{IsUtf8-from_is_utf8, is_utf8-from_IsUtf8}
use Rattle.base64.specs.GeneralPurpose.{IsBytes, encode_of, decoded_of}
use Rattle.base64.specs.Engines.{url_safe_no_pad}
use Rattle.base64.proofs.EngineFacts.{decode_of-encode_of}
use Rattle.base64.proofs.Streams.{decoded_of-ok}
use Rattle.serde_json.specs.Read.{read}
use Rattle.mg_collate.specs.Direction.{direction_named, direction_name}
use Rattle.mg_collate.specs.declared.direction.Direction.{Direction}
use Rattle.mg_collate.specs.declared.direction.Direction.TheVariants.{Asc, Desc}
use Rattle.mg_value.specs.Text.{Reads, compact, whole_of}
use Rattle.mg_value.specs.Value.{Value, null, text, list, item, no_items}
use Rattle.mg_bookmark.specs.Bookmark.{IsReadAs, RowPlace, Spells, ddoc_value, place_value, spelled}
use Rattle.mg_bookmark.specs.Reading.{bookmark_read, ddoc_in, if_spelled, place_in, place_read, value_in}
use Rattle.mg_bookmark.proofs.Spellings.{utf8-bytes}

-- ---- what is spelled is read

-- decoding an encoding gives the bytes
pub decoded_again : (bytes : List ℕ) → IsBytes bytes → decoded_of url_safe_no_pad (encode_of url_safe_no_pad bytes) ≡ Some bytes
decoded_again bytes low = decoded_of-ok url_safe_no_pad (encode_of url_safe_no_pad bytes) bytes (decode_of-encode_of url_safe_no_pad bytes refl low)

-- a value is found in each of its texts
value_in_text : (bytes : List ℕ) (v : Value) → Reads bytes v → value_in bytes ≡ Some v
value_in_text bytes v r = rw (is_utf8-from_IsUtf8 bytes r.1.0) (rw r.1.1 r.2)

ddoc_again : (d : Option (List ℕ)) → ddoc_in (ddoc_value d) ≡ Some d
ddoc_again None = refl
ddoc_again (Some s) = refl

direction_again : (d : Direction) → direction_named (direction_name d) ≡ Some d
direction_again Asc = refl
direction_again Desc = refl

-- a place is found in its array
place_again : (p : RowPlace) → place_in (place_value p) ≡ Some p
place_again p = rw (ddoc_again p.ddoc) (rw (direction_again p.direction) refl)

if_same : (t : List ℕ) (p : RowPlace) → t ≡ spelled p → IsUtf8 (compact (place_value p)) → if_spelled t p ≡ Some p
if_same t p e utf8 = rw ((bytes_eq-Decides t (spelled p)).1 e) (rw (is_utf8-from_IsUtf8 (compact (place_value p)) utf8) refl)

pub read_of_spelled : (t : List ℕ) (p : RowPlace) → Spells t p → place_read t ≡ Some p
read_of_spelled t p s =
    let bytes = compact (place_value p) in
    let decoded : decoded_of url_safe_no_pad t ≡ Some bytes = ap (decoded_of url_safe_no_pad) s.0 ∙ decoded_again bytes (utf8-bytes bytes s.1.1.0) in
    ap (λ o. option_and_then (if_spelled t) (option_and_then place_in (option_and_then value_in o))) decoded
    ∙ ap (λ o. option_and_then (if_spelled t) (option_and_then place_in o)) (value_in_text bytes (place_value p) s.1)
    ∙ ap (option_and_then (if_spelled t)) (place_again p)
    ∙ if_same t p s.0 s.1.1.0

-- ---- what is read is spelled

-- bytes in which a value is found are a text of it
text_of_value : (bytes : List ℕ) (v : Value) → value_in bytes ≡ Some v → Reads bytes v
text_of_value bytes v = of_test (is_utf8 bytes) refl
  where
    of_test : (b : Bool) → is_utf8 bytes ≡ b → cond b (option_and_then whole_of (read bytes)) None ≡ Some v → Reads bytes v
    of_test true utf8 e = option_and_then_some whole_of (read bytes) v e (λ d r w. (d, (IsUtf8-from_is_utf8 bytes utf8, r), w))
    of_test false utf8 e = absurd cc

ddoc_found : (v : Value) (d : Option (List ℕ)) → ddoc_in v ≡ Some d → v ≡ ddoc_value d
ddoc_found null d e = let f : d ≡ None = cc in rw f refl
ddoc_found (text s) d e = let f : d ≡ Some s = cc in rw f refl
ddoc_found v d e = absurd cc

direction_found : (word : List ℕ) (d : Direction) → direction_named word ≡ Some d → word ≡ direction_name d
direction_found word d = asc (bytes_eq word (codes "asc")) refl
  where
    desc : (b : Bool) → bytes_eq word (codes "desc") ≡ b → cond b (Some Desc) None ≡ Some d → word ≡ direction_name d
    desc true same e = let f : d ≡ Desc = cc in rw f ((bytes_eq-Decides word (codes "desc")).0 same)
    desc false same e = absurd cc

    asc : (b : Bool) → bytes_eq word (codes "asc") ≡ b → cond b (Some Asc) ((if bytes_eq word (codes "desc") then Some Desc else None)) ≡ Some d → word ≡ direction_name d
    asc true same e = let f : d ≡ Asc = cc in rw f ((bytes_eq-Decides word (codes "asc")).0 same)
    asc false same e = desc (bytes_eq word (codes "desc")) refl e

option_mapped : {A B P : Type 0} (f : A → B) (o : Option A) (y : B) → option_map f o ≡ Some y → ((x : A) → o ≡ Some x → f x ≡ y → P) → P
option_mapped f None y e k = absurd cc
option_mapped f (Some x) y e k = k x refl cc

-- a place is found in its own array alone
place_found : (v : Value) (p : RowPlace) → place_in v ≡ Some p → v ≡ place_value p
place_found (list (item d (item (text name) (item (text word) (item (list key) (item (text id) no_items)))))) p e =
    let Made : Option (List ℕ) → Direction → RowPlace = λ ddoc direction. record { ddoc = ddoc; name = name; direction = direction; key = key; id = id } in
    option_and_then_some (λ ddoc. option_map (Made ddoc) (direction_named word)) (ddoc_in d) p e
    (λ ddoc de f. option_mapped (Made ddoc) (direction_named word) p f (λ direction we made.
    subst (λ q. list (item d (item (text name) (item (text word) (item (list key) (item (text id) no_items))))) ≡ place_value q) made (rw (ddoc_found d ddoc de) (rw (direction_found word direction we) refl))))
place_found v p e = absurd cc

if_spelled_is : (t : List ℕ) (q p : RowPlace) → if_spelled t q ≡ Some p → (q ≡ p) × (t ≡ spelled q) × IsUtf8 (compact (place_value q))
if_spelled_is t q p = of_test (bytes_eq t (spelled q)) (is_utf8 (compact (place_value q))) refl refl
  where
    of_test : (b u : Bool) → bytes_eq t (spelled q) ≡ b → is_utf8 (compact (place_value q)) ≡ u → cond (b && u) (Some q) None ≡ Some p → (q ≡ p) × (t ≡ spelled q) × IsUtf8 (compact (place_value q))
    of_test true true same utf8 e = (cc, (bytes_eq-Decides t (spelled q)).0 same, IsUtf8-from_is_utf8 (compact (place_value q)) utf8)
    of_test true false same utf8 e = absurd cc
    of_test false u same utf8 e = absurd cc

reads_again : (t bytes : List ℕ) (v : Value) (p : RowPlace) → decoded_of url_safe_no_pad t ≡ Some bytes → Reads bytes v → v ≡ place_value p → t ≡ spelled p → IsUtf8 (compact (place_value p)) → Spells t p
reads_again t bytes v p d r e s utf8 =
    let text = compact (place_value p) in
    let again : decoded_of url_safe_no_pad t ≡ Some text = ap (decoded_of url_safe_no_pad) s ∙ decoded_again text (utf8-bytes text utf8) in
    let same : bytes ≡ text = cc in
    (s, subst (λ w. Reads text w) e (subst (λ b. Reads b v) same r))

pub spelled_of_read : (t : List ℕ) (p : RowPlace) → place_read t ≡ Some p → Spells t p
spelled_of_read t p e =
    option_and_then_some (if_spelled t) (option_and_then place_in (option_and_then value_in (decoded_of url_safe_no_pad t))) p e (λ q qe is.
    option_and_then_some place_in (option_and_then value_in (decoded_of url_safe_no_pad t)) q qe (λ v ve found.
    option_and_then_some value_in (decoded_of url_safe_no_pad t) v ve (λ bytes de read.
    let all = if_spelled_is t q p is in
    subst (Spells t) all.0 (reads_again t bytes v q de (text_of_value bytes v read) (place_found v q found) all.1 all.2))))

pub none_read : (t : List ℕ) → ((p : RowPlace) → Spells t p → ⊥) → place_read t ≡ None
none_read t h = of (place_read t) refl
  where
    of : (r : Option RowPlace) → place_read t ≡ r → r ≡ None
    of None e = refl
    of (Some p) e = absurd (h p (spelled_of_read t p e))

none_spelled : (t : List ℕ) → place_read t ≡ None → (p : RowPlace) → Spells t p → ⊥
none_spelled t none p s = let some = read_of_spelled t p s in cc

-- a text is the spelling of one place at most
one_place : (t : List ℕ) (p q : RowPlace) → Spells t p → Spells t q → p ≡ q
one_place t p q a b = let first = read_of_spelled t p a in let second = read_of_spelled t q b in cc

-- ---- what a client sends back

pub bookmark_of_place : (t : List ℕ) (r : Option RowPlace) → t ≢ codes "nil" → place_read t ≡ r → bookmark_read t ≡ option_map Some r
bookmark_of_place t r other e = of_test (bytes_eq t (codes "nil")) refl
  where
    of_test : (b : Bool) → bytes_eq t (codes "nil") ≡ b → cond b (Some None) (option_map Some (place_read t)) ≡ option_map Some r
    of_test true same = absurd (other ((bytes_eq-Decides t (codes "nil")).0 same))
    of_test false same = ap (option_map Some) e

pub is_read_as : (t : List ℕ) → IsReadAs t (bookmark_read t)
is_read_as t = of_test (bytes_eq t (codes "nil")) (bytes_eq-Decides t (codes "nil"))
  where
    of_place : t ≢ codes "nil" → (r : Option RowPlace) → place_read t ≡ r → IsReadAs t (option_map Some r)
    of_place other None e = (other, none_spelled t e)
    of_place other (Some p) e = (other, spelled_of_read t p e)

    of_test : (b : Bool) → ◌↔◌ (b ≡ true) (t ≡ codes "nil") → IsReadAs t (cond b (Some None) (option_map Some (place_read t)))
    of_test true same = same.0 refl
    of_test false same = of_place (λ e. let yes = same.1 e in cc) (place_read t) refl

pub one_reading : (t : List ℕ) (r s : Option (Option RowPlace)) → IsReadAs t r → IsReadAs t s → r ≡ s
one_reading t None None a b = refl
one_reading t None (Some None) a b = absurd (a.0 b)
one_reading t None (Some (Some q)) a b = absurd (a.1 q b.1)
one_reading t (Some None) None a b = absurd (b.0 a)
one_reading t (Some None) (Some None) a b = refl
one_reading t (Some None) (Some (Some q)) a b = absurd (b.0 a)
one_reading t (Some (Some p)) None a b = absurd (b.1 p a.1)
one_reading t (Some (Some p)) (Some None) a b = absurd (a.0 b)
one_reading t (Some (Some p)) (Some (Some q)) a b = ap (λ x. Some (Some x)) (one_place t p q a.1 b.1)
