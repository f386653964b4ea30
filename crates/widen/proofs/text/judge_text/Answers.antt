use Rattle.widen.proofs.text.judge_text.Goals as goal

pub judge-requires : goal.judge-requires
judge-requires c = (c.in-Ok.ensures c.readings-readings.result.now c.readings-readings.ensures).1

pub returns-in-Ok : goal.returns-in-Ok
returns-in-Ok c = (c.in-Ok.stated, c.in-Ok.ensures, record { judged = c.judge.ensures.judged; exact = c.judge.ensures.exact })
