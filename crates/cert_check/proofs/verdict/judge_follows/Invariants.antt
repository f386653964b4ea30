use Rattle.std.proofs.Common.{List, drop}
use Rattle.problem_model.specs.Bounds.{Times}
use Rattle.problem_model.specs.Nodes.{Reading}
use Rattle.problem_model.specs.ShortList.{follow_bounds}
use Rattle.cert_check.specs.declared.verdict.Verdict.{Verdict}
use Rattle.cert_check.specs.Verdict.{Judges, AreTimes}
use Rattle.cert_check.specs.Widened.{widened}
use Rattle.cert_check.proofs.verdict.judge_follows.Given as goal

-- a verdict over the follows to the clocks from this place on is the verdict over all
abbrev pub invariant-loop-later : goal.invariant-loop-later
invariant-loop-later l = (x : Times) (readings : List Reading) → AreTimes l.p x readings l.e → (v : Verdict) → Judges (widened l.what l.p l.extra) x (follow_bounds l.p.follows readings l.later (drop l.later l.p.clocks)) v
    → Judges (widened l.what l.p l.extra) x (follow_bounds l.p.follows readings 0 l.p.clocks) v
