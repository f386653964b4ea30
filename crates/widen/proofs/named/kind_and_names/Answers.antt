use Rattle.std.proofs.Common.{sym}
use Rattle.widen.proofs.Words.{some_link, none_link, some_name, none_name}
use Rattle.widen.proofs.named.kind_and_names.Goals as goal

pub returns-in-Some-clause-some : goal.returns-in-Some-clause-some
returns-in-Some-clause-some c = some_link _ _ _ _ _ (sym c.in-Some.ensures) c.kind_and_link.ensures.some

pub returns-in-Some-clause-none : goal.returns-in-Some-clause-none
returns-in-Some-clause-none c = none_link _ _ _ _ _ (sym c.in-Some.ensures) c.kind_and_link.ensures.none

pub returns-in-None-clause-some : goal.returns-in-None-clause-some
returns-in-None-clause-some c = some_name _ _ _ c.kind_and_clock.ensures.some

pub returns-in-None-clause-none : goal.returns-in-None-clause-none
returns-in-None-clause-none c = none_name _ _ _ (sym c.in-None.ensures) c.kind_and_clock.ensures.none
