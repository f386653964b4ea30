use Rattle.std.proofs.Common.{◌≡◌, codes, sym, rules}
use Rattle.widen.proofs.Words.{not_cut, not_least, some_says, none_says}
use Rattle.widen.proofs.read.stated_by.Goals as goal

pub returns-then-ne-clause-none : goal.returns-then-ne-clause-none
returns-then-ne-clause-none c =
    let other : c.in-Some.word.now ≡ codes "least" → ⊥ = search rules in
    not_least _ _ _ (sym c.in-Some.ensures) other

pub returns-else-ne-clause-some : goal.returns-else-ne-clause-some
returns-else-ne-clause-some c =
    let is : c.in-Some.word.now ≡ codes "least" = search rules in
    some_says _ _ _ _ (sym c.in-Some.ensures) is c.stated_in.ensures.some

pub returns-else-ne-clause-none : goal.returns-else-ne-clause-none
returns-else-ne-clause-none c = none_says _ _ _ _ (sym c.in-Some.ensures) c.stated_in.ensures.none

pub returns-in-None-clause-none : goal.returns-in-None-clause-none
returns-in-None-clause-none c = not_cut _ (sym c.in-None.ensures)
