-- The text at a name of the compact text of a value is that of the value.
use Rattle.std.proofs.Common.{◌≡◌, ℕ, List, Bool, true, false, cond, Option, Some, None, option_map, ◌≤◌, subst, refl, sym, ap, ◌∙◌}
use Rattle.std.specs.Prelude.{option_and_then, IsUtf8}
use Rattle.std.specs.Str.{bytes_eq}
use Rattle.std.specs.Ordering.{is_eq, match_ordering, nat_cmp}
use Rattle.std.specs.declared.cmp.Ordering.{Ordering}
use Rattle.std.specs.declared.cmp.Ordering.TheVariants.{Less, Equal, Greater}
use Rattle.std.specs.Cmp.Lexicographic.{slice_cmp}
use Rattle.std.proofs.lemmas.Map.Text.{is_eq-slice_cmp}
use Rattle.std.proofs.lemmas.Slice.Eq.{bytes_eq-Decides}
use Rattle.std.proofs.lemmas.Str.{is_utf8-from_IsUtf8}
use Rattle.json.specs.Json.{Json}
use Rattle.json.specs.Find.{as_str, get, later_or}
use Rattle.json.specs.Find as find
use Rattle.serde_json.specs.Written.{outline, members_outline}
use Rattle.mg_value.specs.Held.{IsHeld, AllAfter, MembersAreHeld}
use Rattle.mg_value.specs.Text.{compact, data_of, data_members}
use Rattle.mg_value.specs.Value.{Value, null, flag, whole, text, list, object, Members, no_members, member, depth, get_member}
use Rattle.mg_value.proofs.Compact.{document_compact}
use Rattle.mg_face.specs.Json.{string_at, string_of, text_at}

agree : (a b : Bool) → (a ≡ true → b ≡ true) → (b ≡ true → a ≡ true) → a ≡ b
agree true true f g = refl
agree true false f g = let odd : false ≡ true = f refl in absurd cc
agree false true f g = let odd : false ≡ true = g refl in absurd cc
agree false false f g = refl

symmetric : (k l : List ℕ) → bytes_eq k l ≡ bytes_eq l k
symmetric k l = agree (bytes_eq k l) (bytes_eq l k)
    (λ e. (bytes_eq-Decides l k).1 (sym ((bytes_eq-Decides k l).0 e)))
    (λ e. (bytes_eq-Decides k l).1 (sym ((bytes_eq-Decides l k).0 e)))

-- a value as a parse tree
abbrev tree_of : Value → Json
tree_of v = outline (data_of v)

absent : (k : List ℕ) (ms : Members) → AllAfter k ms → get_member k ms ≡ None
absent k no_members h = refl
absent k (member l v ms) h = rw h.0 (absent k ms h.1)

-- the last member of a name is the first, where names do not repeat
pick : (o : Ordering) (b : Bool) (rest : Option Value) (w : Value) → is_eq o ≡ b → (b ≡ true → rest ≡ None)
    → later_or (option_map tree_of rest) (cond b (Some (tree_of w)) None) ≡ option_map tree_of (match_ordering o rest (Some w) rest)
pick Less true rest w e alone = absurd cc
pick Less false None w e alone = refl
pick Less false (Some v) w e alone = refl
pick Equal true None w e alone = refl
pick Equal true (Some v) w e alone = let odd : Some v ≡ None = alone refl in absurd cc
pick Equal false rest w e alone = absurd cc
pick Greater true rest w e alone = absurd cc
pick Greater false None w e alone = refl
pick Greater false (Some v) w e alone = refl

-- names do not repeat, so the one member that has the name is found
found : (k : List ℕ) (ms : Members) → MembersAreHeld ms → find.get_member k (members_outline (data_members ms)) ≡ option_map tree_of (get_member k ms)
found k no_members h = refl
found k (member l w ms) h =
    let e : is_eq (slice_cmp nat_cmp k l) ≡ bytes_eq l k = is_eq-slice_cmp k l ∙ symmetric k l in
    let alone : bytes_eq l k ≡ true → get_member k ms ≡ None = λ b. subst (λ s. get_member s ms ≡ None) ((bytes_eq-Decides l k).0 b) (absent l ms h.0) in
    ap (λ o. later_or o (cond (bytes_eq l k) (Some (tree_of w)) None)) (found k ms h.2)
    ∙ pick (slice_cmp nat_cmp k l) (bytes_eq l k) (get_member k ms) w e alone

text_in : (w : Value) → as_str (tree_of w) ≡ string_of w
text_in null = refl
text_in (flag b) = refl
text_in (whole z) = refl
text_in (text s) = refl
text_in (list vs) = refl
text_in (object ms) = refl

text_in_found : (o : Option Value) → option_and_then as_str (option_map tree_of o) ≡ option_and_then string_of o
text_in_found None = refl
text_in_found (Some w) = text_in w

text_of_outline : (k : List ℕ) (v : Value) → IsHeld v → option_and_then as_str (get k (tree_of v)) ≡ string_at k v
text_of_outline k null h = refl
text_of_outline k (flag b) h = refl
text_of_outline k (whole z) h = refl
text_of_outline k (text s) h = refl
text_of_outline k (list vs) h = refl
text_of_outline k (object ms) h = ap (option_and_then as_str) (found k ms h) ∙ text_in_found (get_member k ms)

-- the text at a name of a value's compact text is the value's
pub text_at_compact : (k : List ℕ) (v : Value) → IsHeld v → depth v ≤ 127 → IsUtf8 (compact v) → text_at k (compact v) ≡ string_at k v
text_at_compact k v held shallow utf8 =
    rw (is_utf8-from_IsUtf8 (compact v) utf8, document_compact v held shallow) (text_of_outline k v held)
