-- Functions from nodes to values, and lists of values.
use Rattle.std.proofs.Common.{◌≡◌, ℕ, ◌<◌, List, get_or, arith}
use Rattle.std.specs.Prelude.{ℤ, pos, ◌-ℤ◌, ◌≤ℤ◌, All}
use Rattle.std.proofs.lemmas.Int.{ints}
use Rattle.std.proofs.lemmas.List.FromFn.{get_or-map-range_with_len, length-map-range_with_len}
use Rattle.problem_model.specs.Executions.{Arc, at, Obeys, IsExecution, AreWithin, values_by}

-- the list of a function's values has these values
pub at-values_by : (x : ℕ → ℤ) (nodes k : ℕ) → k < nodes → at (values_by x nodes) k ≡ x k
at-values_by x nodes k l = get_or-map-range_with_len x 0 nodes k k (pos 0) l (omega arith)

-- a function that obeys each arc gives an execution
pub execution_by : (x : ℕ → ℤ) (nodes : ℕ) (arcs : List Arc) → AreWithin nodes arcs → All (Obeys x) arcs → IsExecution nodes arcs (values_by x nodes)
execution_by x nodes arcs within obeyed = record {
  one_each = length-map-range_with_len x 0 nodes;
  obeys = λ k d l.
      let w : (_ : (get_or arcs k d).from < nodes) × ((get_or arcs k d).to < nodes) = within k d l in
      let to : at (values_by x nodes) (get_or arcs k d).to ≡ x (get_or arcs k d).to = at-values_by x nodes (get_or arcs k d).to w.1 in
      let from : at (values_by x nodes) (get_or arcs k d).from ≡ x (get_or arcs k d).from = at-values_by x nodes (get_or arcs k d).from w.0 in
      let o : (x (get_or arcs k d).to -ℤ x (get_or arcs k d).from) ≤ℤ (get_or arcs k d).weight = obeyed k d l in
      omega (arith, ints);
}
