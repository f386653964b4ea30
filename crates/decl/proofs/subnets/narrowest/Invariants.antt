use Rattle.std.proofs.Common.{◌≡◌, drop}
use Rattle.decl.specs.Subnets.{narrowest}
use Rattle.decl.proofs.SubnetTurns.{joined}
use Rattle.decl.proofs.subnets.narrowest.Given as goal

abbrev pub invariant-loop-subnet : goal.invariant-loop-subnet
invariant-loop-subnet l = narrowest l.version l.address l.subnets ≡ joined l.found (narrowest l.version l.address (drop l.subnet-index l.subnets))
