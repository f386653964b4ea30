use Rattle.std.proofs.Common.{ℕ, subst}
use Rattle.problem_model.specs.Bounds.{IsExecution}
use Rattle.problem_model.proofs.OneList.{listed}
use Rattle.cert_check.specs.Widened.{widened}
use Rattle.widen.proofs.proposed.obeys.Goals as goal

pub obeys_widened-requires : goal.obeys_widened-requires
obeys_widened-requires c = (c.readings.result.now, c.readings.ensures, c.requires.each c.readings.result.now c.readings.ensures)

pub returns-in-Obeys : goal.returns-in-Obeys
returns-in-Obeys c = λ yes.
    let p = c.args.p.now in
    let values = c.args.execution.now in
    let times = listed p c.readings.result.now values c.readings.ensures (c.requires.each c.readings.result.now c.readings.ensures) in
    (times.0, subst (λ (e : ℕ). IsExecution (widened c.args.what p e) times.0) c.nano.ensures (rw c.in-Obeys.is at (c.obeys_widened.ensures.verdict times.0 times.1)))
