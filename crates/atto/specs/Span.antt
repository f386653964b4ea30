-- The bounds on a span of a clock, in units of 1e-9 ns.
use Rattle.std.specs.Prelude.{ℕ, ◌+◌, ◌-◌, ◌*◌}

-- how much shorter and longer than a clock shows a span may be, in parts per billion
pub record RateParts : Type 0 where
  pub short : ℕ
  pub long : ℕ

-- the least number of units that a span of d ns may last: 999,999,900,000 for 1000 ns where `short` is 100
abbrev pub least_of : RateParts → ℕ → ℕ
least_of r d = d * (1000000000 - r.short)

-- the greatest number of units that a span of d ns may last: 1,000,000,200,000 for 1000 ns where `long` is 200
abbrev pub most_of : RateParts → ℕ → ℕ
most_of r d = d * (1000000000 + r.long)
