use Rattle.std.proofs.Common.{refl, arith}
use Rattle.session.proofs.since.first_of.Goals as goal

pub returns-clause-some : goal.returns-clause-some
returns-clause-some c = (c.first_event.result, c.event-came.result, c.event-came.ensures, c.first_event.ensures, refl)

pub returns-then-len-eq0-clause-none : goal.returns-then-len-eq0-clause-none
returns-then-len-eq0-clause-none c =
    let count = c.len.ensures.count in
    let none = c.if-len-eq0.true in
    omega (arith, count, none)
