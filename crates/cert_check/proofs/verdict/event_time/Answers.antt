use Rattle.std.proofs.Common.{arith}
use Rattle.cert_check.proofs.Times.{event_time_is, one_each}
use Rattle.cert_check.proofs.verdict.event_time.Goals as goal

pub value-requires : goal.value-requires
value-requires c = let each = one_each c.args.p.now c.requires.each.0 c.args.e.now c.requires.each c.requires.each.1 in omega (arith, each, c.requires.within)

pub returns : goal.returns
returns c = λ x readings times. event_time_is c.args.p.now x readings c.args.e.now c.args.place c.value.result times c.requires.within c.value.ensures.value
