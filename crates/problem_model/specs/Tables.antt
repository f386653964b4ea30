-- Arcs by their numbers, of which some are in force.
use Rattle.std.specs.Prelude.{◌≡◌, ◌==◌, ℕ, zero, suc, Bool, true, false, if◌then◌else◌, ℤ, List, [], ◌∷◌, ◌++◌, Contains}
use Rattle.problem_model.specs.Executions.{Arc, Obeys}
use Rattle.problem_model.specs.Reversal.{reversed}

-- the arc of each number, and whether it is in force
pub record ArcTable : Type 0 where
  pub arc : ℕ → Arc
  pub in_force : ℕ → Bool

-- the list holds the arcs in force, and no other
pub record Lists (table : ArcTable) (arcs : List Arc) : Type 0 where
  pub all : (j : ℕ) → table.in_force j ≡ true → Contains arcs (table.arc j)
  pub only : (a : Arc) → Contains arcs a → (j : ℕ) × (table.in_force j ≡ true) × (table.arc j ≡ a)

-- the arcs in force among the first so many numbers
abbrev pub arcs_among : ArcTable → ℕ → List Arc
arcs_among table zero = []
arcs_among table (suc n) = arcs_among table n ++ (if table.in_force n then table.arc n ∷ [] else [])

-- the values obey each arc in force
abbrev pub ObeysAll : ArcTable → (ℕ → ℤ) → Type 0
ObeysAll table x = (j : ℕ) → table.in_force j ≡ true → Obeys x (table.arc j)

-- the table with one arc withdrawn
abbrev pub without : ArcTable → ℕ → ArcTable
without table arc = record { arc = table.arc; in_force = λ j. if j == arc then false else table.in_force j }

-- each arc the other way round
abbrev pub reversed_table : ArcTable → ArcTable
reversed_table table = record { arc = λ j. reversed (table.arc j); in_force = table.in_force }
