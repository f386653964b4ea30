use Rattle.cert.proofs.take_part.push_step.Goals as goal

pub returns-in_default : goal.returns-in_default
returns-in_default c = λ n z held found. c.in_default.ensures.none n z held found.0 found.1 found.2
