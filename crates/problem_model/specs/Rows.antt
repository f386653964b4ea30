-- Rows of distances from one node, and the executions that attain them.
use Rattle.std.specs.Prelude.{◌≡◌, ℕ, ◌<◌, Bool, true, if◌then◌else◌, ℤ, pos, ◌+ℤ◌, ◌-ℤ◌, ◌≤ℤ◌, List, All}
use Rattle.problem_model.specs.Executions.{Arc, at}
use Rattle.problem_model.specs.Paths.{IsPath, sum_of}

-- distances from p that no arc shortens, each the sum of a path; no arc goes from a known node to an unknown one
pub record IsClosedRow (arcs : List Arc) (p : ℕ) (known : ℕ → Bool) (distance : ℕ → ℤ) : Type 0 where
  pub own : (known p ≡ true) × (distance p ≡ pos 0)
  pub along : All (λ a. known a.from ≡ true → (known a.to ≡ true) × (distance a.to ≤ℤ (distance a.from +ℤ a.weight))) arcs
  pub path : (k : ℕ) → known k ≡ true → (steps : List Arc) × IsPath arcs p k steps × (sum_of steps ≡ distance k)

-- K is the greatest of `greatest difference - value` over the known nodes
pub record IsGreatestLead (nodes : ℕ) (known : ℕ → Bool) (greatest : ℕ → ℤ) (xs : List ℤ) (K : ℤ) : Type 0 where
  pub attained : (k : ℕ) × (k < nodes) × (known k ≡ true) × (greatest k -ℤ at xs k ≡ K)
  pub most : (k : ℕ) → k < nodes → known k ≡ true → (greatest k -ℤ at xs k) ≤ℤ K

-- K is the least of `least difference - value` over the known nodes
pub record IsLeastLead (nodes : ℕ) (known : ℕ → Bool) (least : ℕ → ℤ) (xs : List ℤ) (K : ℤ) : Type 0 where
  pub attained : (k : ℕ) × (k < nodes) × (known k ≡ true) × (least k -ℤ at xs k ≡ K)
  pub least_lead : (k : ℕ) → k < nodes → known k ≡ true → K ≤ℤ (least k -ℤ at xs k)

-- each known node has its difference, and every other its value and K: an execution that has all these differences,
-- where K is the greatest or least lead
abbrev pub attaining : (ℕ → Bool) → (ℕ → ℤ) → List ℤ → ℤ → ℕ → ℤ
attaining known differences xs K k = if known k then differences k else (at xs k +ℤ K)

-- the least differences from a node, by a row of distances towards it: that is a row of the reversed arcs
abbrev pub least_differences : (ℕ → ℤ) → ℕ → ℤ
least_differences distance k = pos 0 -ℤ distance k
