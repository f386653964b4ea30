use Rattle.std.proofs.Common.{drop}
use Rattle.problem_model.specs.Bounds.{Times}
use Rattle.problem_model.specs.ShortList.{span_bounds}
use Rattle.cert_check.specs.declared.verdict.Verdict.{Verdict}
use Rattle.cert_check.specs.Verdict.{Judges, AreTimes}
use Rattle.cert_check.specs.Widened.{widened}
use Rattle.cert_check.proofs.verdict.judge_spans.Given as goal

-- a verdict over the spans behind this place is the verdict over all
abbrev pub invariant-loop-place : goal.invariant-loop-place
invariant-loop-place l = (x : Times) → AreTimes l.p x l.readings l.e → (v : Verdict) → Judges (widened l.what l.p l.extra) x (span_bounds (drop l.place l.readings)) v → Judges (widened l.what l.p l.extra) x (span_bounds l.readings) v
