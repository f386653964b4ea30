use Rattle.widen.proofs.healing.least_healing.Goals as goal

pub returns-clause-healing : goal.returns-clause-healing
returns-clause-healing g c = c.extra_of-extra.ensures c.args.what c.args.p.now (c.concluded.ensures c.args.what c.args.p.now c.in_ok-narrow_by.ensures)
