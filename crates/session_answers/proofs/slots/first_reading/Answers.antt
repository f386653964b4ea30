use Rattle.roster.proofs.EventNames.{if_none}
use Rattle.session_answers.proofs.Engines.{clock_listed, listed_clock}
use Rattle.session_answers.proofs.slots.first_reading.Goals as goal

pub returns-in_err-stamp-clause-none : goal.returns-in_err-stamp-clause-none
returns-in_err-stamp-clause-none c = if_none c.from_residual.result _ (λ stamp node at. c.in_err-stamp.ensures stamp (listed_clock c.args.roster.now c.args.clock stamp node at))

pub returns-in_err-node-clause-none : goal.returns-in_err-node-clause-none
returns-in_err-node-clause-none c = absurd (c.in_err-node.ensures.none c.in_ok-stamp.ensures.0)

pub returns-clause-some : goal.returns-clause-some
returns-clause-some c = clock_listed c.args.roster.now c.args.clock c.in_ok-stamp.stamp c.in_ok-node.node c.in_ok-node.ensures.some
