use Rattle.widen.proofs.healing.healing_of.Goals as goal

pub returns-clause-healing : goal.returns-clause-healing
returns-clause-healing c = λ what p known. c.extra_of-extra.ensures what p (c.concluded-found.ensures what p known)

pub returns-clause-cycle : goal.returns-clause-cycle
returns-clause-cycle c = λ what p known. c.cycle_of-cycle.ensures what p (c.concluded-found.ensures what p known)
