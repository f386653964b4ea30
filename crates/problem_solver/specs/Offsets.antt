-- Clocks that reach each other by messages.
use Rattle.std.specs.Prelude.{◌≡◌, ℕ, ◌+◌, ◌<◌, List, length, All, Bool, true, false}
use Rattle.std.specs.List.{sum_by}
use Rattle.problem_solver.specs.declared.offsets.Link.{Link}
use Rattle.problem_solver.specs.declared.offsets.Offset.{Offset}

-- links lead to clocks
abbrev pub LeadToClocks : ℕ → List Link → Type 0
LeadToClocks clocks links = All (λ link. link.to < clocks) links

-- a flag that is not set counts one
abbrev pub unset : Bool → ℕ
unset true = 0
unset false = 1

-- how many flags are not set
abbrev pub count_unset : List Bool → ℕ
count_unset flags = sum_by unset flags

-- those reached are clocks, as many as have their flag, and each clock has an offset
pub record AreReached (order : List ℕ) (reached : List Bool) (offsets : List Offset) : Type 0 where
  pub one_each : length offsets ≡ length reached
  pub clocks : All (λ clock. clock < length reached) order
  pub counted : length order + count_unset reached ≡ length reached
