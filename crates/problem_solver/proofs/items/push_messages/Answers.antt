use Rattle.std.proofs.Common.{◌-◌, length, ap, arith}
use Rattle.problem_solver.proofs.ItemSteps.{message_pushed}
use Rattle.problem_solver.proofs.items.push_messages.Goals as goal

pub loop-place-preserved : goal.loop-place-preserved
loop-place-preserved c =
    let p = c.args.p.now in
    let rs = c.args.readings.now in
    let len = ap length c.messages-message-items.ensures.value in
    message_pushed p rs (length rs - 1) (length p.clocks) (length p.events) c.loop-place.place c.loop-place.items.items c.push.new.self.items _ c.loop-place.invariant c.in_ok-push.ensures.items (omega (arith, len, c.loop-place-test.true))
