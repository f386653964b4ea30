use Rattle.std.proofs.Common.{subst}
use Rattle.widen.specs.Least.{most_extra}
use Rattle.widen.specs.Found.{FindsWidening}
use Rattle.widen.proofs.Sharing.{cycle_below}
use Rattle.widen.proofs.healing.cycle_of.Goals as goal

pub returns-in-Least : goal.returns-in-Least
returns-in-Least c = λ what p finds.
    let found = subst (FindsWidening what p) c.in-Least.is finds in
    cycle_below what p c.in-Least.extra c.in-Least.cycle found.2

pub returns : goal.returns
returns c = λ what p finds. (what, most_extra, subst (FindsWidening what p) c.in-Never.is finds)
