-- Lists of steps that end in other steps, and the steps of a prefix.
use Rattle.std.proofs.Common.{◌≡◌, ℕ, ◌-◌, Bool, true, false, List, ◌++◌, length, take, drop, map, nat_eq, String, Global, string_bytes, Option, Some, refl, sym, ap, ap₂, ◌∙◌, rules}
use Rattle.std.specs.Arc.{arc_value}
use Rattle.std.specs.Bool.{Decides}
use Rattle.std.specs.Cmp.Derive.Mapped.{pointwise-map}
use Rattle.std.specs.Cmp.Lexicographic.{pointwise}
use Rattle.std.proofs.lemmas.List.{append_cancel_right, take-append-drop, take-map, drop-map, length-map}
use Rattle.std.proofs.lemmas.Slice.Eq.{slice_eq-Decides, bytes_eq-Decides, ends_is}
use Rattle.std.specs.declared.sync.Arc.{Arc}
use Rattle.mg_path.specs.Equal.{path_eq}
use Rattle.mg_normal.specs.View.{prefix_steps, above_steps}
use Rattle.mg_normal.specs.declared.prefix.Prefix.{Prefix, out-Prefix, the_lemmas}

path_eq-Decides : (a b : List (List ℕ)) → Decides (path_eq a b) (a ≡ b)
path_eq-Decides a b = slice_eq-Decides bytes_eq-Decides a b (path_eq a b) refl

-- two tests that imply each other agree
both_decide : (b d : Bool) → (b ≡ true → d ≡ true) → (d ≡ true → b ≡ true) → b ≡ d
both_decide true d f g = sym (f refl)
both_decide false true f g = g refl
both_decide false false f g = refl

refute : (b : Bool) → (b ≡ true → false ≡ true) → b ≡ false
refute true f = sym (f refl)
refute false f = refl

-- steps that end in `last` are `front` and then `last` exactly if `front` is what comes before their end
ends : (k : ℕ) (front last steps : List (List ℕ)) → path_eq (drop k steps) last ≡ true → path_eq (front ++ last) steps ≡ path_eq front (take k steps)
ends k front last steps h =
    let tail : drop k steps ≡ last = (path_eq-Decides (drop k steps) last).0 h in
    let whole : take k steps ++ last ≡ steps = ap (λ ys. take k steps ++ ys) (sym tail) ∙ take-append-drop k steps in
    both_decide (path_eq (front ++ last) steps) (path_eq front (take k steps))
    (λ e. (path_eq-Decides front (take k steps)).1 (append_cancel_right front (take k steps) last ((path_eq-Decides (front ++ last) steps).0 e ∙ sym whole)))
    (λ e. (path_eq-Decides (front ++ last) steps).1 (ap (λ ys. ys ++ last) ((path_eq-Decides front (take k steps)).0 e) ∙ whole))

-- steps that do not end in `last` are not anything and then `last`
not_ends : (front last steps : List (List ℕ)) → path_eq (drop (length steps - length last) steps) last ≡ false → path_eq (front ++ last) steps ≡ false
not_ends front last steps h =
    let tail = drop (length steps - length last) steps in
    refute (path_eq (front ++ last) steps) (λ e.
    let whole : front ++ last ≡ steps = (path_eq-Decides (front ++ last) steps).0 e in
    let same : last ≡ tail = (path_eq-Decides last tail).0 ((ends_is bytes_eq-Decides steps last (path_eq last tail) refl).1 front (sym whole)) in
    sym h ∙ (path_eq-Decides tail last).1 (sym same))

-- the same of texts
pub texts_end : (front : List (List ℕ)) (last steps : List (String Global)) → let k = length steps - length last in
    pointwise (λ a b. pointwise nat_eq (string_bytes a) (string_bytes b)) (drop k steps) last ≡ true → path_eq (front ++ map string_bytes last) (map string_bytes steps) ≡ path_eq front (map string_bytes (take k steps))
texts_end front last steps h =
    let k = length steps - length last in
    ends k front (map string_bytes last) (map string_bytes steps)
    (ap (λ ys. path_eq ys (map string_bytes last)) (drop-map string_bytes k steps) ∙ pointwise-map string_bytes (pointwise nat_eq) (drop k steps) last ∙ h)
    ∙ ap (path_eq front) (take-map string_bytes k steps)

pub texts_end_not : (front : List (List ℕ)) (last steps : List (String Global)) →
    pointwise (λ a b. pointwise nat_eq (string_bytes a) (string_bytes b)) (drop (length steps - length last) steps) last ≡ false → path_eq (front ++ map string_bytes last) (map string_bytes steps) ≡ false
texts_end_not front last steps h =
    let k = length steps - length last in
    let is_k : length (map string_bytes steps) - length (map string_bytes last) ≡ k = ap₂ ◌-◌ (length-map steps string_bytes) (length-map last string_bytes) in
    not_ends front (map string_bytes last) (map string_bytes steps)
    (ap (λ n. path_eq (drop n (map string_bytes steps)) (map string_bytes last)) is_k
    ∙ ap (λ ys. path_eq ys (map string_bytes last)) (drop-map string_bytes k steps) ∙ pointwise-map string_bytes (pointwise nat_eq) (drop k steps) last ∙ h)

-- the steps of a prefix are those above it and then its own
prefix_steps-out : (p : Prefix) → prefix_steps p ≡ above_steps (out-Prefix p).above ++ arc_value (out-Prefix p).path
prefix_steps-out p = search (rules, the_lemmas)

pub steps_below : (above : Option (Arc Prefix Global)) (prefix : Arc Prefix Global) (own : List (List ℕ)) → above ≡ Some prefix → own ≡ arc_value (out-Prefix (arc_value prefix)).path
    → above_steps above ≡ above_steps (out-Prefix (arc_value prefix)).above ++ own
steps_below above prefix own is path =
    ap above_steps is ∙ prefix_steps-out (arc_value prefix) ∙ ap (λ ys. above_steps (out-Prefix (arc_value prefix)).above ++ ys) (sym path)
