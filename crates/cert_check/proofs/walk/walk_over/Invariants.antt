use Rattle.std.proofs.Common.{◌≡◌, ◌≤◌, ◌*◌, ◌-◌, ◌^◌, take, unsigned_abs}
use Rattle.problem_model.specs.Solutions.{weight_of}
use Rattle.cert.specs.Shows.{weighed_bounds}
use Rattle.cert_check.specs.Walks.{Goes}
use Rattle.cert_check.specs.Widened.{widened}
use Rattle.cert_check.proofs.walk.walk_over.Given as goal

-- the steps before this place are walked over, and summed up
abbrev pub invariant-loop-k : goal.invariant-loop-k
invariant-loop-k l = Goes (widened l.what l.p l.extra) l.part l.fn.start (weighed_bounds (take l.k l.steps)) l.held.node × (l.held.sum ≡ weight_of (weighed_bounds (take l.k l.steps))) × (unsigned_abs l.held.sum ≤ l.k * (2 ^ 93 - 1)) × (l.k ≤ l.count)
