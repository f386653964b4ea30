use Rattle.std.proofs.Common.{sym, subst}
use Rattle.widen.specs.Search.{IsCycleOf}
use Rattle.widen.proofs.shared_cycles.narrow_by.Goals as goal

pub narrow_by_one-requires-clause-cycle : goal.narrow_by_one-requires-clause-cycle
narrow_by_one-requires-clause-cycle c =
    subst (IsCycleOf c.args.p.now) (sym c.cycle-item.is) (c.requires.cycles c.loop-cycle.cycle-index c.cycle-item.result c.loop-cycle-test.true)
