use Rattle.std.proofs.Common.{sym}
use Rattle.widen.proofs.Words.{said_of, not_said_of, said_alone, not_said_alone}
use Rattle.widen.proofs.read.stated_in.Goals as goal

pub returns-in-Some-clause-some : goal.returns-in-Some-clause-some
returns-in-Some-clause-some c = said_of _ _ _ _ (sym c.in-Some.ensures) c.stated_of.ensures.some

pub returns-in-Some-clause-none : goal.returns-in-Some-clause-none
returns-in-Some-clause-none c = not_said_of _ _ _ _ (sym c.in-Some.ensures) c.stated_of.ensures.none

pub returns-in-None-clause-some : goal.returns-in-None-clause-some
returns-in-None-clause-some c = said_alone _ _ c.stated_alone.ensures.some

pub returns-in-None-clause-none : goal.returns-in-None-clause-none
returns-in-None-clause-none c = not_said_alone _ _ (sym c.in-None.ensures) c.stated_alone.ensures.none
