-- Clocks that are never short or long.
use Rattle.std.specs.Prelude.{◌≡◌, ℕ}
use Rattle.problem_model.specs.declared.items.Clock.{Clock}
use Rattle.problem_model.specs.Problem.{ProblemLists}
use Rattle.problem_model.specs.Bounds.{ClockAt}

-- the clock at this place is never short or long
abbrev pub KeepsTime : ProblemLists → ℕ → Type 0
KeepsTime p clock = (c : Clock) × ClockAt p clock c × (c.rate.short ≡ 0) × (c.rate.long ≡ 0)
