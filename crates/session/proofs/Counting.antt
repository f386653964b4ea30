-- How many events there are.
use Rattle.std.proofs.Common.{◌≡◌, ◌≤◌, ℕ, min, arith}

-- a few are no more than there may be
pub least_of_few : (n most few : ℕ) → n ≤ few → few ≤ most → min n most ≡ n
least_of_few n most few le below = grind (arith, le, below)
