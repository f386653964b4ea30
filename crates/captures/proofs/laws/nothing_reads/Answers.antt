use Rattle.std.proofs.Common.{refl}
use Rattle.captures.specs.Formats.{nothing_formatted}
use Rattle.captures.proofs.Formats.{nothing_read}
use Rattle.captures.proofs.laws.nothing_reads.Goals as goal

pub returns : goal.returns
returns c = record { read = nothing_formatted; reads = nothing_read; says = refl }
