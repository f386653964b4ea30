use Rattle.std.proofs.Common.{sym, subst}
use Rattle.widen.specs.Least.{IsLeastWidening}
use Rattle.widen.proofs.Proposing.{least_at}
use Rattle.widen.proofs.healing.healing_at_low.Goals as goal

pub returns-then-low-before-clause-healing : goal.returns-then-low-before-clause-healing
returns-then-low-before-clause-healing c = λ what p known heals.
    subst (IsLeastWidening what p) (sym c.nano.ensures) (least_at what p c.args.known.low c.args.known.below c.requires known.below heals)

pub returns-clause-healing : goal.returns-clause-healing
returns-clause-healing c = λ what p known heals.
    subst (IsLeastWidening what p) (sym c.nano.ensures) (least_at what p c.args.known.low c.args.known.below c.requires known.below heals)
