use Rattle.std.proofs.Common.{◌+◌, ℕ, List, [], length, Option, Some}
use Rattle.std.specs.Prelude.{ℤ}
use Rattle.problem.specs.Listing.{all_readings}
use Rattle.cert_check.specs.declared.what.What.{What}
use Rattle.widen.specs.WideningFormat.WideningSaid.{Said}
use Rattle.widen.specs.ReadsLines.{IsBehind}
use Rattle.widen.proofs.read.read_steps.Given as goal

-- the lines so far say these steps, whatever stands before the cycle
abbrev pub invariant-loop-body : goal.invariant-loop-body
invariant-loop-body l = (what : What) (extra : Option ℕ) (values : List ℤ) (text : List ℕ) → IsBehind l.p (all_readings l.p.events) text l.lines (Said what extra values (Some [])) l.first
    → IsBehind l.p (all_readings l.p.events) text l.rest (Said what extra values (Some l.cycle)) (l.first + length l.cycle)

abbrev pub decreases-loop-body : goal.decreases-loop-body
decreases-loop-body l = length l.rest
