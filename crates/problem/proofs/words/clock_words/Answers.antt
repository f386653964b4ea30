use Rattle.std.proofs.Common.{sym}
use Rattle.problem.proofs.Forms.{clock_not_five, clock_not_parts, clock_says, some_through, none_through}
use Rattle.problem.proofs.words.clock_words.Goals as goal

pub returns-in-Some-clause-some : goal.returns-in-Some-clause-some
returns-in-Some-clause-some c = some_through _ (λ w parts. clock_says _ _ _ _ _ _ w (sym c.in-Some.ensures) parts) c.clock_of.ensures.some

pub returns-in-Some-clause-none : goal.returns-in-Some-clause-none
returns-in-Some-clause-none c = none_through _ (clock_not_parts _ _ _ _ _ _ (sym c.in-Some.ensures)) c.clock_of.ensures.none

pub returns-in-None-clause-none : goal.returns-in-None-clause-none
returns-in-None-clause-none c = clock_not_five _ (sym c.in-None.ensures)
