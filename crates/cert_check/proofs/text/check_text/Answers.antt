use Rattle.cert_check.proofs.text.check_text.Goals as goal

pub check-requires : goal.check-requires
check-requires c = let found = c.in-Ok.ensures c.readings.result.now c.readings.ensures in found.1

pub returns-in-Ok : goal.returns-in-Ok
returns-in-Ok c = (c.in-Ok.c, c.in-Ok.ensures, record { is_answer = c.check.ensures.answer; exact = c.check.ensures.exact })
