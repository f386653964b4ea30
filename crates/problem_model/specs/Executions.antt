-- Difference constraints between numbered nodes, and the executions that obey them.
use Rattle.std.specs.Prelude.{◌≡◌, ℕ, ◌<◌, map, ℤ, pos, ◌-ℤ◌, ◌≤ℤ◌, List, length, slice_index_or, All}
use Rattle.std.specs.List.{range_with_len}

-- a difference constraint: x_to - x_from ≤ weight, as an arc from its tail to its head. From 0 to 1 with weight 5: node
-- 1 comes at most 5 after node 0. From 1 to 0 with weight -2: it comes at least 2 after node 0
pub record Arc : Type 0 where
  pub from : ℕ
  pub to : ℕ
  pub weight : ℤ

-- the value of a node in a list of one value per node
abbrev pub at : List ℤ → ℕ → ℤ
at xs node = slice_index_or xs node (pos 0)

-- x_q - x_p
abbrev pub difference : (ℕ → ℤ) → ℕ → ℕ → ℤ
difference x p q = x q -ℤ x p

-- the values obey the arc: that of its head less that of its tail is at most its weight
abbrev pub Obeys : (ℕ → ℤ) → Arc → Type 0
Obeys x a = difference x a.from a.to ≤ℤ a.weight

-- one value per node, and together they obey each arc
pub record IsExecution (nodes : ℕ) (arcs : List Arc) (xs : List ℤ) : Type 0 where
  pub one_each : length xs ≡ nodes
  pub obeys : All (Obeys (at xs)) arcs

-- both ends of each arc are nodes
abbrev pub AreWithin : ℕ → List Arc → Type 0
AreWithin nodes arcs = All (λ a. (a.from < nodes) × (a.to < nodes)) arcs

-- the list of the values that a function gives the nodes
abbrev pub values_by : (ℕ → ℤ) → ℕ → List ℤ
values_by x nodes = map x (range_with_len 0 nodes)
