use Rattle.std.proofs.Common.{Option, drop}
use Rattle.std.specs.List.{flat_map}
use Rattle.problem_model.specs.declared.items.Bound.{Bound}
use Rattle.problem_model.specs.ShortList.{message_bounds}
use Rattle.cert_check.specs.Faults.{FindsLeaving}
use Rattle.cert_check.proofs.cut.first_delay_leaving.Given as goal

-- what is found among the messages from this place on is found among all
abbrev pub invariant-loop-message : goal.invariant-loop-message
invariant-loop-message l = (o : Option Bound) → FindsLeaving l.p l.inside (flat_map message_bounds (drop l.message-index l.p.messages)) o → FindsLeaving l.p l.inside (flat_map message_bounds l.p.messages) o
