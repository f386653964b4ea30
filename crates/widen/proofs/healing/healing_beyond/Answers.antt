use Rattle.widen.proofs.healing.healing_beyond.Goals as goal

pub returns-then-branch-clause-healing : goal.returns-then-branch-clause-healing
returns-then-branch-clause-healing g c =
    c.healing_at_low.ensures.healing c.args.what c.args.p.now c.in_ok-narrow_by_pass.ensures.known (c.in_ok-narrow_by_pass.ensures.heals c.if-branch.true)

pub returns-then-branch-clause-cycle : goal.returns-then-branch-clause-cycle
returns-then-branch-clause-cycle g c = c.healing_at_low.ensures.cycle c.args.what c.args.p.now c.in_ok-narrow_by_pass.ensures.known

pub returns-clause-healing : goal.returns-clause-healing
returns-clause-healing g c = c.healing_of.ensures.healing c.args.what c.args.p.now c.in_ok-close.ensures.known

pub returns-clause-cycle : goal.returns-clause-cycle
returns-clause-cycle g c = c.healing_of.ensures.cycle c.args.what c.args.p.now c.in_ok-close.ensures.known
