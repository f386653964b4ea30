-- The ends of an interval, from the greatest differences in both directions.
use Rattle.std.specs.Prelude.{◌^◌, ℤ, pos, neg_ℤ, ◌+ℤ◌, ◌<ℤ◌}
use Rattle.row_pool.specs.declared.cell.Reach.{Reach}
use Rattle.row_pool.specs.declared.cell.Reach.TheVariants as reaches
use Rattle.row_pool.specs.declared.cell.Pair.{Pair}
use Rattle.intervals.specs.declared.ends.End.{End}
use Rattle.intervals.specs.declared.ends.End.TheVariants.{At, Unbounded}
use Rattle.intervals.specs.declared.ends.Ends.{Ends}

-- below 2 ^ 120 in absolute value
abbrev pub IsSmall : ℤ → Type 0
IsSmall h = (neg_ℤ (pos (2 ^ 120)) <ℤ h) × (h <ℤ pos (2 ^ 120))

-- a greatest difference is small, if there is one
abbrev pub FitsReach : Reach → Type 0
FitsReach (reaches.At h) = IsSmall h
FitsReach reaches.Never = Unit {0}

-- both greatest differences are small
abbrev pub FitsPair : Pair → Type 0
FitsPair pair = FitsReach pair.up × FitsReach pair.down

-- an end is small, if there is one
abbrev pub FitsEnd : End → Type 0
FitsEnd (At h) = IsSmall h
FitsEnd Unbounded = Unit {0}

-- both ends are small, where they are there
abbrev pub FitsEnds : Ends → Type 0
FitsEnds e = FitsEnd e.least × FitsEnd e.greatest

-- the end above, of the greatest x_q - x_p; none where executions pass every number
abbrev pub greatest_end : Reach → End
greatest_end (reaches.At h) = At h
greatest_end reaches.Never = Unbounded

-- the end below, the negative of the greatest x_p - x_q; none where executions pass every number
abbrev pub least_end : Reach → End
least_end (reaches.At h) = At (neg_ℤ h)
least_end reaches.Never = Unbounded

-- the ends of x_q - x_p
abbrev pub ends_of : Pair → Ends
ends_of pair = record { least = least_end pair.down; greatest = greatest_end pair.up }

-- an end, so many units later; where there is none, there is none later
abbrev pub shifted_end : ℤ → End → End
shifted_end by (At h) = At (by +ℤ h)
shifted_end by Unbounded = Unbounded

-- both ends, so many units later
abbrev pub shifted : ℤ → Ends → Ends
shifted by e = record { least = shifted_end by e.least; greatest = shifted_end by e.greatest }
