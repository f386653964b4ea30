-- Stamps of clocks.
use Rattle.std.specs.Prelude.{ℕ, ◌<◌, List, All}
use Rattle.problem_solver.specs.declared.times.Stamp.{Stamp}

-- stamps of so many clocks
abbrev pub AreStamps : ℕ → List Stamp → Type 0
AreStamps clocks stamps = All (λ stamp. stamp.clock < clocks) stamps
