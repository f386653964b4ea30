-- The order of two real times, of the ends of their difference.
use Rattle.std.specs.Prelude.{◌≡◌, pos, ◌≤ℤ◌, ◌<ℤ◌}
use Rattle.intervals.specs.declared.ends.End.{End}
use Rattle.intervals.specs.declared.ends.End.TheVariants.{At, Unbounded}
use Rattle.intervals.specs.declared.ends.Ends.{Ends}
use Rattle.intervals.specs.declared.order.Order.{Order}
use Rattle.intervals.specs.declared.order.Order.TheVariants.{Before, After, Same, Undecided}

-- there is an end, and it is above 0
abbrev pub IsAbove : End → Type 0
IsAbove (At h) = pos 0 <ℤ h
IsAbove Unbounded = ⊥

-- there is an end, and it is below 0
abbrev pub IsBelow : End → Type 0
IsBelow (At h) = h <ℤ pos 0
IsBelow Unbounded = ⊥

-- there is an end, and it is 0
abbrev pub IsZero : End → Type 0
IsZero (At h) = h ≡ pos 0
IsZero Unbounded = ⊥

-- where both ends are there, the first is not above the second
abbrev pub AreInOrder : End → End → Type 0
AreInOrder (At least) (At greatest) = least ≤ℤ greatest
AreInOrder (At least) Unbounded = Unit {0}
AreInOrder Unbounded greatest = Unit {0}

-- the least is not above the greatest, where both are there: some number lies between the ends
abbrev pub IsInterval : Ends → Type 0
IsInterval e = AreInOrder e.least e.greatest

-- x_p comes before x_q where the least x_q - x_p is above 0, after it where the greatest is below 0, at the same time where
-- both are 0; else this is not decided
abbrev pub IsOrder : Ends → Order → Type 0
IsOrder e Before = IsAbove e.least
IsOrder e After = IsBelow e.greatest
IsOrder e Same = IsZero e.least × IsZero e.greatest
IsOrder e Undecided = (IsAbove e.least → ⊥) × (IsBelow e.greatest → ⊥) × (IsZero e.least × IsZero e.greatest → ⊥)
