-- How long lines are.
use Rattle.std.proofs.Common.{◌≡◌, ◌≤◌, ◌+◌, ◌*◌, ℕ, suc, List, [], ◌∷◌, length, All, arith, length-append}
use Rattle.std.specs.List.{flat_map}
use Rattle.std.proofs.lemmas.List.Elements.{All-head, All-tail}
use Rattle.line_format.specs.Words.{words, line_of}

-- the bytes of these words, each with one behind it
abbrev pub sized : List (List ℕ) → ℕ
sized [] = 0
sized (w ∷ ws) = length w + 1 + sized ws

words_size : (w : List ℕ) (ws : List (List ℕ)) → length (words (w ∷ ws)) + 1 ≡ sized (w ∷ ws)
words_size w [] = omega arith
words_size w (v ∷ ws) = let rest = words_size v ws in omega (arith, rest, length-append w (32 ∷ words (v ∷ ws)))

pub line_size : (w : List ℕ) (ws : List (List ℕ)) → length (line_of (w ∷ ws)) ≡ sized (w ∷ ws)
line_size w ws = let rest = words_size w ws in omega (arith, rest, length-append (words (w ∷ ws)) (10 ∷ []))

times_more : (n m : ℕ) → suc n * m ≡ m + n * m
times_more n m = grind arith

pub lines_short : {X : Type 0} (line : X → List ℕ) (m : ℕ) (xs : List X) → All (λ x. length (line x) ≤ m) xs → length (flat_map line xs) ≤ length xs * m
lines_short line m [] all = omega arith
lines_short {X = X} line m (x ∷ xs) all =
    let here : length (line x) ≤ m = All-head (λ (y : X). length (line y) ≤ m) x xs all in
    let rest = lines_short line m xs (All-tail (λ (y : X). length (line y) ≤ m) x xs all) in
    let more = times_more (length xs) m in
    omega (arith, here, rest, more, length-append (line x) (flat_map line xs))
