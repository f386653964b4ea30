-- Sizes of signed numbers.
use Rattle.std.specs.Prelude.{ℕ, ◌^◌, ℤ, pos, neg_ℤ, ◌≤ℤ◌}

-- at most 2^bits in absolute value
abbrev pub IsUpTo : ℕ → ℤ → Type 0
IsUpTo bits x = (neg_ℤ (pos (2 ^ bits)) ≤ℤ x) × (x ≤ℤ pos (2 ^ bits))
