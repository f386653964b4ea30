-- What a row tells of a node.
use Rattle.std.specs.Prelude.{ℕ, Bool, true, false, ℤ}
use Rattle.problem_model.specs.Parents.{Cells}
use Rattle.row_pool.specs.declared.cell.Reach.{Reach}
use Rattle.row_pool.specs.declared.cell.Reach.TheVariants.{At, Never}

-- a distance where it is known
abbrev pub known_reach : Bool → ℤ → Reach
known_reach true distance = At distance
known_reach false distance = Never

-- the greatest difference that a row tells of a node: its distance, or none where it has none
abbrev pub reach_of : Cells → ℕ → Reach
reach_of c k = known_reach (c.known k) (c.value k)
