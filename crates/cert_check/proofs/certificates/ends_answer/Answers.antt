use Rattle.cert_check.proofs.Answering.{upper_answer, lower_answer}
use Rattle.cert_check.proofs.certificates.ends_answer.Goals as goal

pub returns-in-None-clause-answer : goal.returns-in-None-clause-answer
returns-in-None-clause-answer c =
    rw c.answer.ensures (lower_answer c.args.p.now c.events.ensures.lawful.formed c.args.first c.args.second c.args.upper.now c.args.lower.now c.end_fault-in-None.result c.requires (rw c.in-None.is at c.end_fault.ensures.found) c.end_fault-in-None.ensures.found)

pub returns-in_default-clause-answer : goal.returns-in_default-clause-answer
returns-in_default-clause-answer c =
    rw c.answer-in_default.ensures (upper_answer c.args.p.now c.events.ensures.lawful.formed c.args.first c.args.second c.args.upper.now c.args.lower.now c.end_fault.result c.in_default.not-None c.end_fault.ensures.found)
