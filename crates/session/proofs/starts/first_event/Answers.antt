use Rattle.std.proofs.Common.{◌≡◌, length, arith, rules}
use Rattle.session.proofs.FirstEvents.{first_on, first_done}
use Rattle.session.proofs.starts.first_event.Goals as goal

pub loop-v-init : goal.loop-v-init
loop-v-init c = record { inside = c.requires.some; each = λ v below. absurd (omega (arith, below)) }

pub loop-v-preserved : goal.loop-v-preserved
loop-v-preserved c =
    let count = c.len-v-end.ensures.count in
    let inside = c.loop-v-test.true in
    first_on c.args.solver.now c.args.names.now.came c.loop-v.first c.loop-v.v c.first_of_two-first.result c.loop-v.invariant (omega (arith, count, inside)) c.first_of_two-first.ensures

pub returns : goal.returns
returns c =
    let count = c.len-v-end.ensures.count in
    let past = c.loop-v-test.false in
    first_done c.args.solver.now c.args.names.now.came c.loop-v.first c.loop-v.v (omega (arith, count, past)) c.loop-v.invariant
