use Rattle.std.proofs.Common.{drop, List}
use Rattle.std.specs.List.{flat_map}
use Rattle.problem_model.specs.Bounds.{Times}
use Rattle.problem_model.specs.Nodes.{Reading}
use Rattle.problem_model.specs.ShortList.{message_bounds}
use Rattle.cert_check.specs.declared.verdict.Verdict.{Verdict}
use Rattle.cert_check.specs.Verdict.{Judges, AreTimes}
use Rattle.cert_check.specs.Widened.{widened}
use Rattle.cert_check.proofs.verdict.judge_messages.Given as goal

-- a verdict over the messages behind this place is the verdict over all
abbrev pub invariant-loop-message : goal.invariant-loop-message
invariant-loop-message l = (x : Times) (readings : List Reading) → AreTimes l.p x readings l.e → (v : Verdict) → Judges (widened l.what l.p l.extra) x (flat_map message_bounds (drop l.message-index l.p.messages)) v → Judges (widened l.what l.p l.extra) x (flat_map message_bounds l.p.messages) v
