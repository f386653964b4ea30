use Rattle.std.proofs.Common.{sym}
use Rattle.widen.proofs.Words.{some_names, none_names, some_kind, none_kind}
use Rattle.widen.proofs.named.named_by.Goals as goal

pub returns-in-Some-clause-some : goal.returns-in-Some-clause-some
returns-in-Some-clause-some c = some_names _ _ _ _ (sym c.in-Some.ensures) c.kind_and_names.ensures.some

pub returns-in-Some-clause-none : goal.returns-in-Some-clause-none
returns-in-Some-clause-none c = none_names _ _ _ _ (sym c.in-Some.ensures) c.kind_and_names.ensures.none

pub returns-in-None-clause-some : goal.returns-in-None-clause-some
returns-in-None-clause-some c = some_kind _ _ c.kind_alone.ensures.some

pub returns-in-None-clause-none : goal.returns-in-None-clause-none
returns-in-None-clause-none c = none_kind _ _ (sym c.in-None.ensures) c.kind_alone.ensures.none
