use Rattle.widen.proofs.JudgedOnce.{exact}
use Rattle.widen.proofs.verdicts.judge.Goals as goal

pub judge_least-requires-clause-execution : goal.judge_least-requires-clause-execution
judge_least-requires-clause-execution c = (rw c.in-Least.is at c.requires).0

pub judge_least-requires-clause-cycle : goal.judge_least-requires-clause-cycle
judge_least-requires-clause-cycle c = (rw c.in-Least.is at c.requires).1

pub check_cycle-requires : goal.check_cycle-requires
check_cycle-requires c = rw c.in-Never.is at c.requires

pub returns-in-Least-clause-judged : goal.returns-in-Least-clause-judged
returns-in-Least-clause-judged c = rw c.in-Least.is c.judge_least.ensures.judged

pub returns-in-Least-clause-exact : goal.returns-in-Least-clause-exact
returns-in-Least-clause-exact c = exact c.args.what c.args.p.now c.events.ensures.lawful.formed c.args.w.now c.judge_least.result c.requires (returns-in-Least-clause-judged c)

pub returns-in-Never-clause-judged : goal.returns-in-Never-clause-judged
returns-in-Never-clause-judged c = rw c.in-Never.is (rw c.most_extra.ensures at c.check_cycle.ensures.answer)

pub returns-in-Never-clause-exact : goal.returns-in-Never-clause-exact
returns-in-Never-clause-exact c = exact c.args.what c.args.p.now c.events.ensures.lawful.formed c.args.w.now c.check_cycle.result c.requires (returns-in-Never-clause-judged c)
