use Rattle.std.proofs.Common.{ltb, rules}
use Rattle.std.proofs.lemmas.Fn.{always_returns_same}
use Rattle.roster.specs.Readings.{Stamped}
use Rattle.roster.proofs.Stamps.{parted_by, below_point}
use Rattle.roster.proofs.readings.below.Goals as goal

pub returns-clause-before : goal.returns-clause-before
returns-clause-before c =
    below_point c.args.readings.now c.args.stamp c.partition_point.result c.partition_point.ensures.bound
    (c.partition_point.ensures.partitioned (λ (r : Stamped). ltb r.0 c.args.stamp) (always_returns_same _ _ _ (λ a r f called. (search rules, search rules))) (parted_by c.args.readings.now c.args.stamp c.requires))
