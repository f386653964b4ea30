use Rattle.std.proofs.Common.{sym}
use Rattle.problem.proofs.Forms.{own_not_five, own_not_parts, own_says, some_through, none_through}
use Rattle.problem.proofs.words.own_words.Goals as goal

pub returns-in-Some-clause-some : goal.returns-in-Some-clause-some
returns-in-Some-clause-some c = some_through _ (λ w parts. own_says _ _ _ _ _ _ w (sym c.in-Some.ensures) parts) c.own_of.ensures.some

pub returns-in-Some-clause-none : goal.returns-in-Some-clause-none
returns-in-Some-clause-none c = none_through _ (own_not_parts _ _ _ _ _ _ (sym c.in-Some.ensures)) c.own_of.ensures.none

pub returns-in-None-clause-none : goal.returns-in-None-clause-none
returns-in-None-clause-none c = own_not_five _ (sym c.in-None.ensures)
