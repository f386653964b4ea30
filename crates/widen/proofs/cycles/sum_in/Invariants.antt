use Rattle.std.proofs.Common.{◌≤◌, ◌*◌, ◌^◌}
use Rattle.std.specs.Prelude.{unsigned_abs}
use Rattle.widen.proofs.cycles.sum_in.Given as goal

-- each weight is below 2^93
abbrev pub invariant-loop-arc : goal.invariant-loop-arc
invariant-loop-arc l = unsigned_abs l.sum ≤ l.arc-index * 2 ^ 93
