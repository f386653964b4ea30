use Rattle.std.proofs.Common.{sym}
use Rattle.cert.proofs.Forms.{reading_not_four, reading_not_parts, reading_says, some_through, none_through}
use Rattle.cert.proofs.words.reading_words.Goals as goal

pub returns-in-Some-clause-some : goal.returns-in-Some-clause-some
returns-in-Some-clause-some c = some_through _ (λ w parts. reading_says _ _ _ _ _ w (sym c.in-Some.ensures) parts) c.reading_of.ensures.some

pub returns-in-Some-clause-none : goal.returns-in-Some-clause-none
returns-in-Some-clause-none c = none_through _ (reading_not_parts _ _ _ _ _ (sym c.in-Some.ensures)) c.reading_of.ensures.none

pub returns-in-None-clause-none : goal.returns-in-None-clause-none
returns-in-None-clause-none c = reading_not_four _ (sym c.in-None.ensures)
