use Rattle.std.proofs.Common.{sym}
use Rattle.problem.proofs.Forms.{message_not_four, message_not_parts, message_says, some_through, none_through}
use Rattle.problem.proofs.words.message_words.Goals as goal

pub returns-in-Some-clause-some : goal.returns-in-Some-clause-some
returns-in-Some-clause-some c = some_through _ (λ w parts. message_says _ _ _ _ _ w (sym c.in-Some.ensures) parts) c.message_of.ensures.some

pub returns-in-Some-clause-none : goal.returns-in-Some-clause-none
returns-in-Some-clause-none c = none_through _ (message_not_parts _ _ _ _ _ (sym c.in-Some.ensures)) c.message_of.ensures.none

pub returns-in-None-clause-none : goal.returns-in-None-clause-none
returns-in-None-clause-none c = message_not_four _ (sym c.in-None.ensures)
