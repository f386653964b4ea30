use Rattle.decl.proofs.Grouped.{address6_found, address6_only}
use Rattle.decl.proofs.addresses.addresses6_are_groups.Goals as goal

pub returns-clause-found : goal.returns-clause-found
returns-clause-found c = address6_found

pub returns-clause-only : goal.returns-clause-only
returns-clause-only c = address6_only
