use Rattle.std.proofs.Common.{List, Option, drop}
use Rattle.problem_model.specs.declared.items.Bound.{Bound}
use Rattle.problem_model.specs.Nodes.{Reading, AreReadings}
use Rattle.problem_model.specs.ShortList.{follow_bounds}
use Rattle.cert_check.specs.Faults.{FindsLeaving}
use Rattle.cert_check.proofs.cut.first_follow_leaving.Given as goal

-- what is found among the follows to the clocks from this place on is found among all
abbrev pub invariant-loop-later : goal.invariant-loop-later
invariant-loop-later l = (readings : List Reading) → AreReadings l.p readings → (o : Option Bound) → FindsLeaving l.p l.inside (follow_bounds l.p.follows readings l.later (drop l.later l.p.clocks)) o
    → FindsLeaving l.p l.inside (follow_bounds l.p.follows readings 0 l.p.clocks) o
