use Rattle.std.proofs.Common.{refl}
use Rattle.cert_check.specs.Walks.{constraint}
use Rattle.cert_check.proofs.Walking.{step_at, step_of}
use Rattle.cert_check.proofs.cycle.start_of.Goals as goal

pub declared_in-bound-requires : goal.declared_in-bound-requires
declared_in-bound-requires c = step_of c.args.p.now c.steps.result.now c.args.chain.now 0 c.index-steps-0.result c.steps.ensures c.requires.some c.index-steps-0.is c.requires.steps

pub returns : goal.returns
returns c = (c.index-steps-0.result, constraint c.declared_in-bound.result, step_at c.steps.result.now c.args.chain.now 0 c.index-steps-0.result c.steps.ensures c.requires.some c.index-steps-0.is, c.declared_in-bound.ensures.declares, refl)
