use Rattle.decl.proofs.Dotted.{address_found, address_only}
use Rattle.decl.proofs.addresses.addresses_are_dotted.Goals as goal

pub returns-clause-found : goal.returns-clause-found
returns-clause-found c = address_found

pub returns-clause-only : goal.returns-clause-only
returns-clause-only c = address_only
