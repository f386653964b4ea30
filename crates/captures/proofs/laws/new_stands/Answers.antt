use Rattle.std.proofs.Common.{refl}
use Rattle.captures.specs.Formats.{nothing_formatted}
use Rattle.captures.proofs.Formats.{new_stood}
use Rattle.captures.proofs.laws.new_stands.Goals as goal

pub returns : goal.returns
returns c = λ t new. record { read = nothing_formatted; stands = new_stood t new; says = refl }
