use Rattle.decl.proofs.SubnetTurns.{twin_found, twin_none}
use Rattle.decl.proofs.subnets.cause_behind.Goals as goal

pub returns-in-Some : goal.returns-in-Some
returns-in-Some c = rw c.twin_cause.ensures (twin_found c.args.subnet.now c.in-Some.twin.now _ c.in-Some.ensures)

pub returns-in-None : goal.returns-in-None
returns-in-None c = twin_none c.args.subnet.now _ c.in-None.ensures
