use Rattle.cert_check.proofs.Attaining.{both_found, broken_found}
use Rattle.cert_check.proofs.attained.attained_fault.Goals as goal

pub returns-in-None-clause-found : goal.returns-in-None-clause-found
returns-in-None-clause-found c = λ part.
    both_found c.args.p.now part c.args.first c.args.second c.args.value c.args.execution.now c.difference_fault.result c.events.ensures.lawful.formed (rw c.in-None.is at (c.run_fault.ensures.found part)) (c.difference_fault.ensures.found part)

pub returns-in_default-clause-found : goal.returns-in_default-clause-found
returns-in_default-clause-found c = λ part. broken_found c.args.p.now part c.args.first c.args.second c.args.value c.args.execution.now c.run_fault.result c.in_default.not-None (c.run_fault.ensures.found part)
