use Rattle.traces.proofs.Chains.{one_group}
use Rattle.traces.proofs.laws.groups_are_chains.Goals as goal

pub returns : goal.returns
returns c = one_group
