use Rattle.std.proofs.Common.{◌≡◌, ◌+◌, ◌++◌, List, [], ◌∷◌, Option, Some, None, String, Global, drop, map, option_map, string_bytes, refl, ap, sym, ◌∙◌, add-one, append_assoc}
use Rattle.std.proofs.Math.Seq.{drop-cons}
use Rattle.std.specs.Prelude.{ℕ}
use Rattle.mg_path.specs.Part.{steps_of}
use Rattle.mg_index.specs.Definition.{Steps}
use Rattle.mg_index.specs.Reading.{each_of}
use Rattle.mg_index.proofs.column.read_paths.Goals as goal

before : (found : List Steps) (path : Steps) (rest : Option (List Steps))
    → option_map (λ ps. found ++ ps) (option_map (λ ps. path ∷ ps) rest) ≡ option_map (λ ps. (found ++ path ∷ []) ++ ps) rest
before found path None = refl
before found path (Some ps) = ap Some (sym (append_assoc found (path ∷ []) ps))

-- one more path was read: it goes behind those found so far
one_more : (found : List Steps) (text : List ℕ) (rest : List (List ℕ)) (path : Steps) → steps_of text ≡ Some path
    → option_map (λ ps. found ++ ps) (each_of steps_of (text ∷ rest)) ≡ option_map (λ ps. (found ++ path ∷ []) ++ ps) (each_of steps_of rest)
one_more found text rest path is = rw is (before found path (each_of steps_of rest))

pub loop-text-preserved : goal.loop-text-preserved
loop-text-preserved c =
    let l = c.loop-text in
    let texts = c.args.texts.now in
    let text : String Global = c.text-item.result in
    let rest = drop (l.text-index + 1) texts in
    let first : drop l.text-index texts ≡ text ∷ rest = drop-cons texts l.text-index text c.loop-text-test.true ∙ rw (add-one, ← c.text-item.is) in
    l.invariant ∙ ap (λ (ts : List (String Global)). option_map (λ ps. l.paths.items ++ ps) (each_of steps_of (map string_bytes ts))) first
    ∙ one_more l.paths.items (string_bytes text) (map string_bytes rest) c.in_ok-path.path (sym (ap steps_of c.as_str.ensures.value) ∙ c.in_ok-path.ensures.ok)
    ∙ ap (λ (xs : List Steps). option_map (λ ps. xs ++ ps) (each_of steps_of (map string_bytes rest))) (sym c.in_ok-push.ensures.items)
