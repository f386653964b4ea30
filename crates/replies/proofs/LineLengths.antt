-- How long a line is with a word more.
use Rattle.std.proofs.Common.{◌≡◌, ℕ, suc, ◌+◌, List, ◌∷◌, ◌++◌, length, arith, length-append}

pub longer : (line word : List ℕ) → length (line ++ 32 ∷ word) ≡ length line + (length word + 1)
longer line word =
    let joined : length (line ++ 32 ∷ word) ≡ length line + suc (length word) = length-append line (32 ∷ word) in
    omega (arith, joined)
