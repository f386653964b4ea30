use Rattle.widen.proofs.read.read_least.Goals as goal

pub returns-in-Ok : goal.returns-in-Ok
returns-in-Ok c = λ what text b. let reads = c.in-Ok.ensures what c.args.extra text b in c.read_rest.ensures what text reads.0 reads.1

pub returns-in-Err : goal.returns-in-Err
returns-in-Err c = λ what text b. c.in-Err.ensures what c.args.extra text b
