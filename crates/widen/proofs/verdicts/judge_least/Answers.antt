use Rattle.std.proofs.Common.{inl, inr}
use Rattle.widen.proofs.verdicts.judge_least.Goals as goal

pub returns-in-Yes-clause-judged : goal.returns-in-Yes-clause-judged
returns-in-Yes-clause-judged c = inr (rw c.in-Yes.is at c.judge_run.ensures.answer, c.judge_below.ensures.answer)

pub returns-in_default-clause-judged : goal.returns-in_default-clause-judged
returns-in_default-clause-judged c = inl (c.judge_run.ensures.answer, c.in_default.not-Yes)
