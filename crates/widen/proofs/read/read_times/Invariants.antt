use Rattle.std.proofs.Common.{◌+◌, ◌-◌, ℕ, List, [], length, Some, None}
use Rattle.problem_model.specs.Nodes.{nodes_of}
use Rattle.problem.specs.Listing.{all_readings}
use Rattle.cert.specs.ExecutionFormat.{AreValues}
use Rattle.cert_check.specs.declared.what.What.{What}
use Rattle.widen.specs.WideningFormat.WideningSaid.{Said}
use Rattle.widen.specs.ReadsLines.{IsBehind}
use Rattle.widen.proofs.read.read_times.Given as goal

-- the lines so far say these real times, whatever the widening is
abbrev pub invariant-nodes : goal.invariant-nodes
invariant-nodes l = ((what : What) (extra : ℕ) (text : List ℕ) → IsBehind l.p (all_readings l.p.events) text l.lines (Said what (Some extra) [] None) 3
    → IsBehind l.p (all_readings l.p.events) text l.rest (Said what (Some extra) l.times None) (length l.times + 3))
    × AreValues (length (nodes_of l.p (all_readings l.p.events))) l.times

abbrev pub decreases-nodes : goal.decreases-nodes
decreases-nodes l = l.count - length l.times
