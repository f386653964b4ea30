use Rattle.std.proofs.Common.{List, drop}
use Rattle.problem_model.specs.Nodes.{Reading}
use Rattle.problem_model.specs.Bounds.{Times}
use Rattle.problem_model.specs.ShortList.{event_bounds}
use Rattle.cert_check.specs.declared.verdict.Verdict.{Verdict}
use Rattle.cert_check.specs.Verdict.{Judges, AreTimes}
use Rattle.cert_check.specs.Widened.{widened}
use Rattle.cert_check.proofs.verdict.judge_stamps.Given as goal

-- a verdict over the stamps behind this place is the verdict over all
abbrev pub invariant-loop-place : goal.invariant-loop-place
invariant-loop-place l = (x : Times) (readings : List Reading) → AreTimes l.p x readings l.e → (v : Verdict) → Judges (widened l.what l.p l.extra) x (event_bounds l.place (drop l.place l.p.events)) v → Judges (widened l.what l.p l.extra) x (event_bounds 0 l.p.events) v
