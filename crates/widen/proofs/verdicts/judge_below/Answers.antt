use Rattle.std.proofs.Common.{refl}
use Rattle.widen.proofs.verdicts.judge_below.Goals as goal

pub check_cycle-requires : goal.check_cycle-requires
check_cycle-requires c = (rw c.in-Some.is at c.requires).1

pub returns-in-Some-clause-answer : goal.returns-in-Some-clause-answer
returns-in-Some-clause-answer c = rw c.in-Some.is (rw c.less.ensures at c.check_cycle.ensures.answer)

pub returns-in-None-clause-answer : goal.returns-in-None-clause-answer
returns-in-None-clause-answer c = rw c.in-None.is refl
