-- The text of lines of which one is exchanged.
use Rattle.std.proofs.Common.{◌≡◌, ℕ, zero, suc, ◌-◌, ◌<◌, ◌≤◌, List, [], ◌∷◌, ◌++◌, length, map, take, drop, set, refl, ap, ◌∙◌, sym, arith, append_assoc}
use Rattle.std.specs.List.{concat, flat_map}
use Rattle.std.proofs.lemmas.List.{length-map, set_past, take_rest}
use Rattle.shared_fixtures.specs.LinesWith.{lines_with}

concat_lines : {X : Type 0} (f : X → List ℕ) (xs : List X) → concat (map f xs) ≡ flat_map f xs
concat_lines f [] = refl
concat_lines f (x ∷ xs) = ap (λ rest. f x ++ rest) (concat_lines f xs)

concat_exchanged : {X : Type 0} (f : X → List ℕ) (xs : List X) (place : ℕ) (text : List ℕ) → place < length xs →
    concat (set (map f xs) place text) ≡ flat_map f (take place xs) ++ (text ++ flat_map f (drop (suc place) xs))
concat_exchanged f [] place text within = absurd (omega arith)
concat_exchanged f (x ∷ xs) zero text within = ap (λ rest. text ++ rest) (concat_lines f xs)
concat_exchanged f (x ∷ xs) (suc place) text within =
    let inside : place < length xs = omega arith in
    ap (λ rest. f x ++ rest) (concat_exchanged f xs place text inside)
    ∙ sym (append_assoc (f x) (flat_map f (take place xs)) (text ++ flat_map f (drop (suc place) xs)))

-- a number that no line has exchanges none
pub none_exchanged : {X : Type 0} (f : X → List ℕ) (xs : List X) (number : ℕ) (text : List ℕ) → (0 < number → length xs < number) →
    flat_map f xs ≡ concat (lines_with number text (map f xs))
none_exchanged f xs zero text none = sym (concat_lines f xs)
none_exchanged f xs (suc place) text none =
    let past : length xs < suc place = none (omega arith) in
    let same : length (map f xs) ≡ length xs = length-map xs f in
    let few : length (map f xs) ≤ place = omega arith in
    sym (ap concat (set_past (map f xs) place text few) ∙ concat_lines f xs)

-- the lines before it, the other text, and the lines behind it, appended one after another
pub one_exchanged : {X : Type 0} (f : X → List ℕ) (xs : List X) (number : ℕ) (text start front middle whole bytes : List ℕ) →
    0 < number → number ≤ length xs → start ≡ [] → front ≡ start ++ flat_map f (take (number - 1) xs) → bytes ≡ text → middle ≡ front ++ bytes →
    whole ≡ middle ++ flat_map f (take (length xs - number) (drop number xs)) → whole ≡ concat (lines_with number text (map f xs))
one_exchanged f xs zero text start front middle whole bytes some within start_is front_is bytes_is middle_is whole_is = absurd (omega arith)
one_exchanged f xs (suc place) text start front middle whole bytes some within start_is front_is bytes_is middle_is whole_is =
    let inside : place < length xs = omega arith in
    let one_less : suc place - 1 ≡ place = omega arith in
    let before : front ≡ flat_map f (take place xs) =
    front_is ∙ ap (λ text. text ++ flat_map f (take (suc place - 1) xs)) start_is ∙ ap (λ count. flat_map f (take count xs)) one_less in
    whole_is
    ∙ ap (λ rest. middle ++ flat_map f rest) (take_rest xs (suc place))
    ∙ ap (λ so_far. so_far ++ flat_map f (drop (suc place) xs)) (middle_is ∙ ap (λ more. front ++ more) bytes_is ∙ ap (λ so_far. so_far ++ text) before)
    ∙ append_assoc (flat_map f (take place xs)) text (flat_map f (drop (suc place) xs))
    ∙ sym (concat_exchanged f xs place text inside)
