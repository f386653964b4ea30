use Rattle.problem.proofs.Written.{some_most}
use Rattle.problem.proofs.ranges.most_of.Goals as goal

pub returns-in-Some-nano_of : goal.returns-in-Some-nano_of
returns-in-Some-nano_of c = λ m counts. some_most c.in-Some.n c.in-Some.n c.args.n c.in-Some-nano_of.n c.in-Some.is c.in-Some-nano_of.ensures m counts
