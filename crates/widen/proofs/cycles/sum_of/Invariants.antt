use Rattle.std.proofs.Common.{◌≡◌, ◌≤◌, ◌*◌, ◌^◌, drop}
use Rattle.std.specs.Prelude.{◌+ℤ◌, unsigned_abs}
use Rattle.problem_model.specs.Solutions.{weight_of}
use Rattle.widen.specs.Weighed.{weighed_arcs}
use Rattle.widen.proofs.cycles.sum_of.Given as goal

-- so much, and the sum of the arcs that are left
abbrev pub invariant-loop-arc : goal.invariant-loop-arc
invariant-loop-arc l = record {
  rest : l.sum +ℤ weight_of (weighed_arcs (drop l.arc-index l.arcs)) ≡ weight_of (weighed_arcs l.arcs);
  small : unsigned_abs l.sum ≤ l.arc-index * 2 ^ 93;
}
